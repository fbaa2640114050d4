-- The numbers of `IflaBrport`.
use Rattle.std.specs.Prelude.{ℕ, Bool, true, false, List, [], ◌∷◌}
use Rattle.neli_wire.specs.Constants.{first_with}
use Rattle.neli_consts_linux.specs.declared.bridges.IflaBrport.{IflaBrport}
use Rattle.neli_consts_linux.specs.declared.bridges.IflaBrport.TheVariants.{Unspec, State, Priority, Cost, Mode, Guard}
use Rattle.neli_consts_linux.specs.declared.bridges.IflaBrport.TheVariants.{Protect, FastLeave, Learning, UnicastFlood}
use Rattle.neli_consts_linux.specs.declared.bridges.IflaBrport.TheVariants.{Proxyarp, LearningSync, ProxyarpWifi}
use Rattle.neli_consts_linux.specs.declared.bridges.IflaBrport.TheVariants.{RootId, BridgeId, DesignatedPort}
use Rattle.neli_consts_linux.specs.declared.bridges.IflaBrport.TheVariants.{DesignatedCost, Id, No, TopologyChangeAck}
use Rattle.neli_consts_linux.specs.declared.bridges.IflaBrport.TheVariants.{ConfigPending, MessageAgeTimer}
use Rattle.neli_consts_linux.specs.declared.bridges.IflaBrport.TheVariants.{ForwardDelayTimer, HoldTimer, Flush}
use Rattle.neli_consts_linux.specs.declared.bridges.IflaBrport.TheVariants.{MulticastRouter, Pad, McastFlood}
use Rattle.neli_consts_linux.specs.declared.bridges.IflaBrport.TheVariants.{McastToUcast, VlanTunnel, BcastFlood}
use Rattle.neli_consts_linux.specs.declared.bridges.IflaBrport.TheVariants.{GroupFwdMask, NeighSuppress, Isolated}
use Rattle.neli_consts_linux.specs.declared.bridges.IflaBrport.TheVariants.{BackupPort, MrpRingOpen, MrpInOpen}
use Rattle.neli_consts_linux.specs.declared.bridges.IflaBrport.TheVariants.{McastEhtHostsLimit, McastEhtHostsCnt}
use Rattle.neli_consts_linux.specs.declared.bridges.IflaBrport.TheVariants.{Locked, Mab, McastNGroups, McastMaxGroups}
use Rattle.neli_consts_linux.specs.declared.bridges.IflaBrport.TheVariants.{NeighVlanSuppress, BackupNhid}
use Rattle.neli_consts_linux.specs.declared.bridges.IflaBrport.TheVariants.{UnrecognizedConst}

-- the number of each variant
abbrev pub ifla_brport_number : IflaBrport → ℕ
ifla_brport_number Unspec = 0
ifla_brport_number State = 1
ifla_brport_number Priority = 2
ifla_brport_number Cost = 3
ifla_brport_number Mode = 4
ifla_brport_number Guard = 5
ifla_brport_number Protect = 6
ifla_brport_number FastLeave = 7
ifla_brport_number Learning = 8
ifla_brport_number UnicastFlood = 9
ifla_brport_number Proxyarp = 10
ifla_brport_number LearningSync = 11
ifla_brport_number ProxyarpWifi = 12
ifla_brport_number RootId = 13
ifla_brport_number BridgeId = 14
ifla_brport_number DesignatedPort = 15
ifla_brport_number DesignatedCost = 16
ifla_brport_number Id = 17
ifla_brport_number No = 18
ifla_brport_number TopologyChangeAck = 19
ifla_brport_number ConfigPending = 20
ifla_brport_number MessageAgeTimer = 21
ifla_brport_number ForwardDelayTimer = 22
ifla_brport_number HoldTimer = 23
ifla_brport_number Flush = 24
ifla_brport_number MulticastRouter = 25
ifla_brport_number Pad = 26
ifla_brport_number McastFlood = 27
ifla_brport_number McastToUcast = 28
ifla_brport_number VlanTunnel = 29
ifla_brport_number BcastFlood = 30
ifla_brport_number GroupFwdMask = 31
ifla_brport_number NeighSuppress = 32
ifla_brport_number Isolated = 33
ifla_brport_number BackupPort = 34
ifla_brport_number MrpRingOpen = 35
ifla_brport_number MrpInOpen = 36
ifla_brport_number McastEhtHostsLimit = 37
ifla_brport_number McastEhtHostsCnt = 38
ifla_brport_number Locked = 39
ifla_brport_number Mab = 40
ifla_brport_number McastNGroups = 41
ifla_brport_number McastMaxGroups = 42
ifla_brport_number NeighVlanSuppress = 43
ifla_brport_number BackupNhid = 44
ifla_brport_number (UnrecognizedConst n) = n

-- the variants, in their order
abbrev pub ifla_brport_variants : List IflaBrport
ifla_brport_variants =
    Unspec ∷ State ∷ Priority ∷ Cost ∷ Mode ∷ Guard ∷ Protect ∷ FastLeave ∷ Learning ∷ UnicastFlood
    ∷ Proxyarp ∷ LearningSync ∷ ProxyarpWifi ∷ RootId ∷ BridgeId ∷ DesignatedPort ∷ DesignatedCost ∷
    Id ∷ No ∷ TopologyChangeAck ∷ ConfigPending ∷ MessageAgeTimer ∷ ForwardDelayTimer ∷ HoldTimer ∷
    Flush ∷ MulticastRouter ∷ Pad ∷ McastFlood ∷ McastToUcast ∷ VlanTunnel ∷ BcastFlood ∷
    GroupFwdMask ∷ NeighSuppress ∷ Isolated ∷ BackupPort ∷ MrpRingOpen ∷ MrpInOpen ∷
    McastEhtHostsLimit ∷ McastEhtHostsCnt ∷ Locked ∷ Mab ∷ McastNGroups ∷ McastMaxGroups ∷
    NeighVlanSuppress ∷ BackupNhid ∷ []

-- the first variant with a number, else the number without a name
abbrev pub ifla_brport_of : ℕ → IflaBrport
ifla_brport_of = first_with ifla_brport_number ifla_brport_variants UnrecognizedConst

-- whether a value is a number without a name
abbrev pub ifla_brport_is_unrecognized : IflaBrport → Bool
ifla_brport_is_unrecognized (UnrecognizedConst n) = true
ifla_brport_is_unrecognized v = false
