-- The numbers of `Frattr`.
use Rattle.std.specs.Prelude.{ℕ, Bool, true, false, List, [], ◌∷◌}
use Rattle.neli_wire.specs.Constants.{first_with}
use Rattle.neli_consts_attrs.specs.declared.rules.Frattr.{Frattr}
use Rattle.neli_consts_attrs.specs.declared.rules.Frattr.TheVariants.{Unspec, Dst, Src, Iifname, Ifname, Goto, Unused2}
use Rattle.neli_consts_attrs.specs.declared.rules.Frattr.TheVariants.{Priority, Unused3, Unused4, Unused5, Fwmark, Flow}
use Rattle.neli_consts_attrs.specs.declared.rules.Frattr.TheVariants.{TunId, SuppressIfgroup, SuppressPrefixlen, Table}
use Rattle.neli_consts_attrs.specs.declared.rules.Frattr.TheVariants.{Fwmask, Oifname, Pad, L3mdev, UidRange, Protocol}
use Rattle.neli_consts_attrs.specs.declared.rules.Frattr.TheVariants.{IpProto, SportRange, DportRange, Dscp, Flowlabel}
use Rattle.neli_consts_attrs.specs.declared.rules.Frattr.TheVariants.{FlowlabelMask, SportMask, DportMask, DscpMask}
use Rattle.neli_consts_attrs.specs.declared.rules.Frattr.TheVariants.{Max, UnrecognizedConst}

-- the number of each variant
abbrev pub frattr_number : Frattr → ℕ
frattr_number Unspec = 0
frattr_number Dst = 1
frattr_number Src = 2
frattr_number Iifname = 3
frattr_number Ifname = 3
frattr_number Goto = 4
frattr_number Unused2 = 5
frattr_number Priority = 6
frattr_number Unused3 = 7
frattr_number Unused4 = 8
frattr_number Unused5 = 9
frattr_number Fwmark = 10
frattr_number Flow = 11
frattr_number TunId = 12
frattr_number SuppressIfgroup = 13
frattr_number SuppressPrefixlen = 14
frattr_number Table = 15
frattr_number Fwmask = 16
frattr_number Oifname = 17
frattr_number Pad = 18
frattr_number L3mdev = 19
frattr_number UidRange = 20
frattr_number Protocol = 21
frattr_number IpProto = 22
frattr_number SportRange = 23
frattr_number DportRange = 24
frattr_number Dscp = 25
frattr_number Flowlabel = 26
frattr_number FlowlabelMask = 27
frattr_number SportMask = 28
frattr_number DportMask = 29
frattr_number DscpMask = 30
frattr_number Max = 31
frattr_number (UnrecognizedConst n) = n

-- the variants, in their order
abbrev pub frattr_variants : List Frattr
frattr_variants =
    Unspec ∷ Dst ∷ Src ∷ Iifname ∷ Ifname ∷ Goto ∷ Unused2 ∷ Priority ∷ Unused3 ∷ Unused4 ∷
    Unused5 ∷ Fwmark ∷ Flow ∷ TunId ∷ SuppressIfgroup ∷ SuppressPrefixlen ∷ Table ∷ Fwmask ∷
    Oifname ∷ Pad ∷ L3mdev ∷ UidRange ∷ Protocol ∷ IpProto ∷ SportRange ∷ DportRange ∷ Dscp ∷
    Flowlabel ∷ FlowlabelMask ∷ SportMask ∷ DportMask ∷ DscpMask ∷ Max ∷ []

-- the first variant with a number, else the number without a name
abbrev pub frattr_of : ℕ → Frattr
frattr_of = first_with frattr_number frattr_variants UnrecognizedConst

-- whether a value is a number without a name
abbrev pub frattr_is_unrecognized : Frattr → Bool
frattr_is_unrecognized (UnrecognizedConst n) = true
frattr_is_unrecognized v = false
