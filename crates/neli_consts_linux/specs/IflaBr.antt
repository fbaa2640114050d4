-- The numbers of `IflaBr`.
use Rattle.std.specs.Prelude.{ℕ, Bool, true, false, List, [], ◌∷◌}
use Rattle.neli_wire.specs.Constants.{first_with}
use Rattle.neli_consts_linux.specs.declared.bridges.IflaBr.{IflaBr}
use Rattle.neli_consts_linux.specs.declared.bridges.IflaBr.TheVariants.{Unspec, ForwardDelay, HelloTime, MaxAge}
use Rattle.neli_consts_linux.specs.declared.bridges.IflaBr.TheVariants.{AgeingTime, StpState, Priority, VlanFiltering}
use Rattle.neli_consts_linux.specs.declared.bridges.IflaBr.TheVariants.{VlanProtocol, GroupFwdMask, RootId, BridgeId}
use Rattle.neli_consts_linux.specs.declared.bridges.IflaBr.TheVariants.{RootPort, RootPathCost, TopologyChange}
use Rattle.neli_consts_linux.specs.declared.bridges.IflaBr.TheVariants.{TopologyChangeDetected, HelloTimer, TcnTimer}
use Rattle.neli_consts_linux.specs.declared.bridges.IflaBr.TheVariants.{TopologyChangeTimer, GcTimer, GroupAddr}
use Rattle.neli_consts_linux.specs.declared.bridges.IflaBr.TheVariants.{FdbFlush, McastRouter, McastSnooping}
use Rattle.neli_consts_linux.specs.declared.bridges.IflaBr.TheVariants.{McastQueryUseIfaddr, McastQuerier}
use Rattle.neli_consts_linux.specs.declared.bridges.IflaBr.TheVariants.{McastHashElasticity, McastHashMax}
use Rattle.neli_consts_linux.specs.declared.bridges.IflaBr.TheVariants.{McastLastMemberCnt, McastStartupQueryCnt}
use Rattle.neli_consts_linux.specs.declared.bridges.IflaBr.TheVariants.{McastLastMemberIntvl, McastMembershipIntvl}
use Rattle.neli_consts_linux.specs.declared.bridges.IflaBr.TheVariants.{McastQuerierIntvl, McastQueryIntvl}
use Rattle.neli_consts_linux.specs.declared.bridges.IflaBr.TheVariants.{McastQueryResponseIntvl, McastStartupQueryIntvl}
use Rattle.neli_consts_linux.specs.declared.bridges.IflaBr.TheVariants.{NfCallIptables, NfCallIp6tables}
use Rattle.neli_consts_linux.specs.declared.bridges.IflaBr.TheVariants.{NfCallArptables, VlanDefaultPvid, Pad}
use Rattle.neli_consts_linux.specs.declared.bridges.IflaBr.TheVariants.{VlanStatsEnabled, McastStatsEnabled}
use Rattle.neli_consts_linux.specs.declared.bridges.IflaBr.TheVariants.{McastIgmpVersion, McastMldVersion}
use Rattle.neli_consts_linux.specs.declared.bridges.IflaBr.TheVariants.{VlanStatsPerPort, MultiBoolopt}
use Rattle.neli_consts_linux.specs.declared.bridges.IflaBr.TheVariants.{McastQuerierState, FdbNLearned, FdbMaxLearned}
use Rattle.neli_consts_linux.specs.declared.bridges.IflaBr.TheVariants.{UnrecognizedConst}

-- the number of each variant
abbrev pub ifla_br_number : IflaBr → ℕ
ifla_br_number Unspec = 0
ifla_br_number ForwardDelay = 1
ifla_br_number HelloTime = 2
ifla_br_number MaxAge = 3
ifla_br_number AgeingTime = 4
ifla_br_number StpState = 5
ifla_br_number Priority = 6
ifla_br_number VlanFiltering = 7
ifla_br_number VlanProtocol = 8
ifla_br_number GroupFwdMask = 9
ifla_br_number RootId = 10
ifla_br_number BridgeId = 11
ifla_br_number RootPort = 12
ifla_br_number RootPathCost = 13
ifla_br_number TopologyChange = 14
ifla_br_number TopologyChangeDetected = 15
ifla_br_number HelloTimer = 16
ifla_br_number TcnTimer = 17
ifla_br_number TopologyChangeTimer = 18
ifla_br_number GcTimer = 19
ifla_br_number GroupAddr = 20
ifla_br_number FdbFlush = 21
ifla_br_number McastRouter = 22
ifla_br_number McastSnooping = 23
ifla_br_number McastQueryUseIfaddr = 24
ifla_br_number McastQuerier = 25
ifla_br_number McastHashElasticity = 26
ifla_br_number McastHashMax = 27
ifla_br_number McastLastMemberCnt = 28
ifla_br_number McastStartupQueryCnt = 29
ifla_br_number McastLastMemberIntvl = 30
ifla_br_number McastMembershipIntvl = 31
ifla_br_number McastQuerierIntvl = 32
ifla_br_number McastQueryIntvl = 33
ifla_br_number McastQueryResponseIntvl = 34
ifla_br_number McastStartupQueryIntvl = 35
ifla_br_number NfCallIptables = 36
ifla_br_number NfCallIp6tables = 37
ifla_br_number NfCallArptables = 38
ifla_br_number VlanDefaultPvid = 39
ifla_br_number Pad = 40
ifla_br_number VlanStatsEnabled = 41
ifla_br_number McastStatsEnabled = 42
ifla_br_number McastIgmpVersion = 43
ifla_br_number McastMldVersion = 44
ifla_br_number VlanStatsPerPort = 45
ifla_br_number MultiBoolopt = 46
ifla_br_number McastQuerierState = 47
ifla_br_number FdbNLearned = 48
ifla_br_number FdbMaxLearned = 49
ifla_br_number (UnrecognizedConst n) = n

-- the variants, in their order
abbrev pub ifla_br_variants : List IflaBr
ifla_br_variants =
    Unspec ∷ ForwardDelay ∷ HelloTime ∷ MaxAge ∷ AgeingTime ∷ StpState ∷ Priority ∷ VlanFiltering ∷
    VlanProtocol ∷ GroupFwdMask ∷ RootId ∷ BridgeId ∷ RootPort ∷ RootPathCost ∷ TopologyChange ∷
    TopologyChangeDetected ∷ HelloTimer ∷ TcnTimer ∷ TopologyChangeTimer ∷ GcTimer ∷ GroupAddr ∷
    FdbFlush ∷ McastRouter ∷ McastSnooping ∷ McastQueryUseIfaddr ∷ McastQuerier ∷
    McastHashElasticity ∷ McastHashMax ∷ McastLastMemberCnt ∷ McastStartupQueryCnt ∷
    McastLastMemberIntvl ∷ McastMembershipIntvl ∷ McastQuerierIntvl ∷ McastQueryIntvl ∷
    McastQueryResponseIntvl ∷ McastStartupQueryIntvl ∷ NfCallIptables ∷ NfCallIp6tables ∷
    NfCallArptables ∷ VlanDefaultPvid ∷ Pad ∷ VlanStatsEnabled ∷ McastStatsEnabled ∷
    McastIgmpVersion ∷ McastMldVersion ∷ VlanStatsPerPort ∷ MultiBoolopt ∷ McastQuerierState ∷
    FdbNLearned ∷ FdbMaxLearned ∷ []

-- the first variant with a number, else the number without a name
abbrev pub ifla_br_of : ℕ → IflaBr
ifla_br_of = first_with ifla_br_number ifla_br_variants UnrecognizedConst

-- whether a value is a number without a name
abbrev pub ifla_br_is_unrecognized : IflaBr → Bool
ifla_br_is_unrecognized (UnrecognizedConst n) = true
ifla_br_is_unrecognized v = false
