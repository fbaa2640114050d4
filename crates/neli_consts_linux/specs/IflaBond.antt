-- The numbers of `IflaBond`.
use Rattle.std.specs.Prelude.{ℕ, Bool, true, false, List, [], ◌∷◌}
use Rattle.neli_wire.specs.Constants.{first_with}
use Rattle.neli_consts_linux.specs.declared.bonds.IflaBond.{IflaBond}
use Rattle.neli_consts_linux.specs.declared.bonds.IflaBond.TheVariants.{Unspec, Mode, ActiveSlave, Miimon, Updelay}
use Rattle.neli_consts_linux.specs.declared.bonds.IflaBond.TheVariants.{Downdelay, UseCarrier, ArpInterval, ArpIpTarget}
use Rattle.neli_consts_linux.specs.declared.bonds.IflaBond.TheVariants.{ArpValidate, ArpAllTargets, Primary}
use Rattle.neli_consts_linux.specs.declared.bonds.IflaBond.TheVariants.{PrimaryReselect, FailOverMac, XmitHashPolicy}
use Rattle.neli_consts_linux.specs.declared.bonds.IflaBond.TheVariants.{ResendIgmp, NumPeerNotif, AllSlavesActive}
use Rattle.neli_consts_linux.specs.declared.bonds.IflaBond.TheVariants.{MinLinks, LpInterval, PacketsPerSlave}
use Rattle.neli_consts_linux.specs.declared.bonds.IflaBond.TheVariants.{AdLacpRate, AdSelect, AdInfo, AdActorSysPrio}
use Rattle.neli_consts_linux.specs.declared.bonds.IflaBond.TheVariants.{AdUserPortKey, AdActorSystem, TlbDynamicLb}
use Rattle.neli_consts_linux.specs.declared.bonds.IflaBond.TheVariants.{PeerNotifDelay, AdLacpActive, MissedMax}
use Rattle.neli_consts_linux.specs.declared.bonds.IflaBond.TheVariants.{NsIp6Target, CoupledControl, BroadcastNeigh}
use Rattle.neli_consts_linux.specs.declared.bonds.IflaBond.TheVariants.{UnrecognizedConst}

-- the number of each variant
abbrev pub ifla_bond_number : IflaBond → ℕ
ifla_bond_number Unspec = 0
ifla_bond_number Mode = 1
ifla_bond_number ActiveSlave = 2
ifla_bond_number Miimon = 3
ifla_bond_number Updelay = 4
ifla_bond_number Downdelay = 5
ifla_bond_number UseCarrier = 6
ifla_bond_number ArpInterval = 7
ifla_bond_number ArpIpTarget = 8
ifla_bond_number ArpValidate = 9
ifla_bond_number ArpAllTargets = 10
ifla_bond_number Primary = 11
ifla_bond_number PrimaryReselect = 12
ifla_bond_number FailOverMac = 13
ifla_bond_number XmitHashPolicy = 14
ifla_bond_number ResendIgmp = 15
ifla_bond_number NumPeerNotif = 16
ifla_bond_number AllSlavesActive = 17
ifla_bond_number MinLinks = 18
ifla_bond_number LpInterval = 19
ifla_bond_number PacketsPerSlave = 20
ifla_bond_number AdLacpRate = 21
ifla_bond_number AdSelect = 22
ifla_bond_number AdInfo = 23
ifla_bond_number AdActorSysPrio = 24
ifla_bond_number AdUserPortKey = 25
ifla_bond_number AdActorSystem = 26
ifla_bond_number TlbDynamicLb = 27
ifla_bond_number PeerNotifDelay = 28
ifla_bond_number AdLacpActive = 29
ifla_bond_number MissedMax = 30
ifla_bond_number NsIp6Target = 31
ifla_bond_number CoupledControl = 32
ifla_bond_number BroadcastNeigh = 33
ifla_bond_number (UnrecognizedConst n) = n

-- the variants, in their order
abbrev pub ifla_bond_variants : List IflaBond
ifla_bond_variants =
    Unspec ∷ Mode ∷ ActiveSlave ∷ Miimon ∷ Updelay ∷ Downdelay ∷ UseCarrier ∷ ArpInterval ∷
    ArpIpTarget ∷ ArpValidate ∷ ArpAllTargets ∷ Primary ∷ PrimaryReselect ∷ FailOverMac ∷
    XmitHashPolicy ∷ ResendIgmp ∷ NumPeerNotif ∷ AllSlavesActive ∷ MinLinks ∷ LpInterval ∷
    PacketsPerSlave ∷ AdLacpRate ∷ AdSelect ∷ AdInfo ∷ AdActorSysPrio ∷ AdUserPortKey ∷
    AdActorSystem ∷ TlbDynamicLb ∷ PeerNotifDelay ∷ AdLacpActive ∷ MissedMax ∷ NsIp6Target ∷
    CoupledControl ∷ BroadcastNeigh ∷ []

-- the first variant with a number, else the number without a name
abbrev pub ifla_bond_of : ℕ → IflaBond
ifla_bond_of = first_with ifla_bond_number ifla_bond_variants UnrecognizedConst

-- whether a value is a number without a name
abbrev pub ifla_bond_is_unrecognized : IflaBond → Bool
ifla_bond_is_unrecognized (UnrecognizedConst n) = true
ifla_bond_is_unrecognized v = false
