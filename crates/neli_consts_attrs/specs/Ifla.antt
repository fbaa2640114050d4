-- The numbers of `Ifla`.
use Rattle.std.specs.Prelude.{ℕ, Bool, true, false, List, [], ◌∷◌}
use Rattle.neli_wire.specs.Constants.{first_with}
use Rattle.neli_consts_attrs.specs.declared.links.Ifla.{Ifla}
use Rattle.neli_consts_attrs.specs.declared.links.Ifla.TheVariants.{Unspec, Address, Broadcast, Ifname, Mtu, Link}
use Rattle.neli_consts_attrs.specs.declared.links.Ifla.TheVariants.{Qdisc, Stats, Cost, Priority, Master, Wireless}
use Rattle.neli_consts_attrs.specs.declared.links.Ifla.TheVariants.{Protinfo, Txqlen, Map, Weight, Operstate, Linkmode}
use Rattle.neli_consts_attrs.specs.declared.links.Ifla.TheVariants.{Linkinfo, NetNsPid, Ifalias, NumVf, VfinfoList}
use Rattle.neli_consts_attrs.specs.declared.links.Ifla.TheVariants.{Stats64, VfPorts, PortSelf, AfSpec, Group, NetNsFd}
use Rattle.neli_consts_attrs.specs.declared.links.Ifla.TheVariants.{ExtMask, Promiscuity, NumTxQueues, NumRxQueues}
use Rattle.neli_consts_attrs.specs.declared.links.Ifla.TheVariants.{Carrier, PhysPortId, CarrierChanges, PhysSwitchId}
use Rattle.neli_consts_attrs.specs.declared.links.Ifla.TheVariants.{LinkNetnsid, PhysPortName, ProtoDown, GsoMaxSegs}
use Rattle.neli_consts_attrs.specs.declared.links.Ifla.TheVariants.{GsoMaxSize, Pad, Xdp, Event, NewNetnsid, IfNetnsid}
use Rattle.neli_consts_attrs.specs.declared.links.Ifla.TheVariants.{CarrierUpCount, CarrierDownCount, NewIfindex}
use Rattle.neli_consts_attrs.specs.declared.links.Ifla.TheVariants.{MinMtu, MaxMtu, PropList, AltIfname, PermAddress}
use Rattle.neli_consts_attrs.specs.declared.links.Ifla.TheVariants.{ProtoDownReason, UnrecognizedConst}

-- the number of each variant
abbrev pub ifla_number : Ifla → ℕ
ifla_number Unspec = 0
ifla_number Address = 1
ifla_number Broadcast = 2
ifla_number Ifname = 3
ifla_number Mtu = 4
ifla_number Link = 5
ifla_number Qdisc = 6
ifla_number Stats = 7
ifla_number Cost = 8
ifla_number Priority = 9
ifla_number Master = 10
ifla_number Wireless = 11
ifla_number Protinfo = 12
ifla_number Txqlen = 13
ifla_number Map = 14
ifla_number Weight = 15
ifla_number Operstate = 16
ifla_number Linkmode = 17
ifla_number Linkinfo = 18
ifla_number NetNsPid = 19
ifla_number Ifalias = 20
ifla_number NumVf = 21
ifla_number VfinfoList = 22
ifla_number Stats64 = 23
ifla_number VfPorts = 24
ifla_number PortSelf = 25
ifla_number AfSpec = 26
ifla_number Group = 27
ifla_number NetNsFd = 28
ifla_number ExtMask = 29
ifla_number Promiscuity = 30
ifla_number NumTxQueues = 31
ifla_number NumRxQueues = 32
ifla_number Carrier = 33
ifla_number PhysPortId = 34
ifla_number CarrierChanges = 35
ifla_number PhysSwitchId = 36
ifla_number LinkNetnsid = 37
ifla_number PhysPortName = 38
ifla_number ProtoDown = 39
ifla_number GsoMaxSegs = 40
ifla_number GsoMaxSize = 41
ifla_number Pad = 42
ifla_number Xdp = 43
ifla_number Event = 44
ifla_number NewNetnsid = 45
ifla_number IfNetnsid = 46
ifla_number CarrierUpCount = 47
ifla_number CarrierDownCount = 48
ifla_number NewIfindex = 49
ifla_number MinMtu = 50
ifla_number MaxMtu = 51
ifla_number PropList = 52
ifla_number AltIfname = 53
ifla_number PermAddress = 54
ifla_number ProtoDownReason = 55
ifla_number (UnrecognizedConst n) = n

-- the variants, in their order
abbrev pub ifla_variants : List Ifla
ifla_variants =
    Unspec ∷ Address ∷ Broadcast ∷ Ifname ∷ Mtu ∷ Link ∷ Qdisc ∷ Stats ∷ Cost ∷ Priority ∷ Master ∷
    Wireless ∷ Protinfo ∷ Txqlen ∷ Map ∷ Weight ∷ Operstate ∷ Linkmode ∷ Linkinfo ∷ NetNsPid ∷
    Ifalias ∷ NumVf ∷ VfinfoList ∷ Stats64 ∷ VfPorts ∷ PortSelf ∷ AfSpec ∷ Group ∷ NetNsFd ∷
    ExtMask ∷ Promiscuity ∷ NumTxQueues ∷ NumRxQueues ∷ Carrier ∷ PhysPortId ∷ CarrierChanges ∷
    PhysSwitchId ∷ LinkNetnsid ∷ PhysPortName ∷ ProtoDown ∷ GsoMaxSegs ∷ GsoMaxSize ∷ Pad ∷ Xdp ∷
    Event ∷ NewNetnsid ∷ IfNetnsid ∷ CarrierUpCount ∷ CarrierDownCount ∷ NewIfindex ∷ MinMtu ∷
    MaxMtu ∷ PropList ∷ AltIfname ∷ PermAddress ∷ ProtoDownReason ∷ []

-- the first variant with a number, else the number without a name
abbrev pub ifla_of : ℕ → Ifla
ifla_of = first_with ifla_number ifla_variants UnrecognizedConst

-- whether a value is a number without a name
abbrev pub ifla_is_unrecognized : Ifla → Bool
ifla_is_unrecognized (UnrecognizedConst n) = true
ifla_is_unrecognized v = false
