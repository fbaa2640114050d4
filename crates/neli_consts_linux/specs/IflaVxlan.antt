-- The numbers of `IflaVxlan`.
use Rattle.std.specs.Prelude.{ℕ, Bool, true, false, List, [], ◌∷◌}
use Rattle.neli_wire.specs.Constants.{first_with}
use Rattle.neli_consts_linux.specs.declared.vxlans.IflaVxlan.{IflaVxlan}
use Rattle.neli_consts_linux.specs.declared.vxlans.IflaVxlan.TheVariants.{Unspec, Id, Group, Link, Local, Ttl, Tos}
use Rattle.neli_consts_linux.specs.declared.vxlans.IflaVxlan.TheVariants.{Learning, Ageing, Limit, PortRange, Proxy}
use Rattle.neli_consts_linux.specs.declared.vxlans.IflaVxlan.TheVariants.{Rsc, L2miss, L3miss, Port, Group6, Local6}
use Rattle.neli_consts_linux.specs.declared.vxlans.IflaVxlan.TheVariants.{UdpCsum, UdpZeroCsum6Tx, UdpZeroCsum6Rx}
use Rattle.neli_consts_linux.specs.declared.vxlans.IflaVxlan.TheVariants.{RemcsumTx, RemcsumRx, Gbp, RemcsumNopartial}
use Rattle.neli_consts_linux.specs.declared.vxlans.IflaVxlan.TheVariants.{CollectMetadata, Label, Gpe, TtlInherit, Df}
use Rattle.neli_consts_linux.specs.declared.vxlans.IflaVxlan.TheVariants.{Vnifilter, Localbypass, LabelPolicy}
use Rattle.neli_consts_linux.specs.declared.vxlans.IflaVxlan.TheVariants.{ReservedBits, McRoute, UnrecognizedConst}

-- the number of each variant
abbrev pub ifla_vxlan_number : IflaVxlan → ℕ
ifla_vxlan_number Unspec = 0
ifla_vxlan_number Id = 1
ifla_vxlan_number Group = 2
ifla_vxlan_number Link = 3
ifla_vxlan_number Local = 4
ifla_vxlan_number Ttl = 5
ifla_vxlan_number Tos = 6
ifla_vxlan_number Learning = 7
ifla_vxlan_number Ageing = 8
ifla_vxlan_number Limit = 9
ifla_vxlan_number PortRange = 10
ifla_vxlan_number Proxy = 11
ifla_vxlan_number Rsc = 12
ifla_vxlan_number L2miss = 13
ifla_vxlan_number L3miss = 14
ifla_vxlan_number Port = 15
ifla_vxlan_number Group6 = 16
ifla_vxlan_number Local6 = 17
ifla_vxlan_number UdpCsum = 18
ifla_vxlan_number UdpZeroCsum6Tx = 19
ifla_vxlan_number UdpZeroCsum6Rx = 20
ifla_vxlan_number RemcsumTx = 21
ifla_vxlan_number RemcsumRx = 22
ifla_vxlan_number Gbp = 23
ifla_vxlan_number RemcsumNopartial = 24
ifla_vxlan_number CollectMetadata = 25
ifla_vxlan_number Label = 26
ifla_vxlan_number Gpe = 27
ifla_vxlan_number TtlInherit = 28
ifla_vxlan_number Df = 29
ifla_vxlan_number Vnifilter = 30
ifla_vxlan_number Localbypass = 31
ifla_vxlan_number LabelPolicy = 32
ifla_vxlan_number ReservedBits = 33
ifla_vxlan_number McRoute = 34
ifla_vxlan_number (UnrecognizedConst n) = n

-- the variants, in their order
abbrev pub ifla_vxlan_variants : List IflaVxlan
ifla_vxlan_variants =
    Unspec ∷ Id ∷ Group ∷ Link ∷ Local ∷ Ttl ∷ Tos ∷ Learning ∷ Ageing ∷ Limit ∷ PortRange ∷ Proxy ∷
    Rsc ∷ L2miss ∷ L3miss ∷ Port ∷ Group6 ∷ Local6 ∷ UdpCsum ∷ UdpZeroCsum6Tx ∷ UdpZeroCsum6Rx ∷
    RemcsumTx ∷ RemcsumRx ∷ Gbp ∷ RemcsumNopartial ∷ CollectMetadata ∷ Label ∷ Gpe ∷ TtlInherit ∷ Df
    ∷ Vnifilter ∷ Localbypass ∷ LabelPolicy ∷ ReservedBits ∷ McRoute ∷ []

-- the first variant with a number, else the number without a name
abbrev pub ifla_vxlan_of : ℕ → IflaVxlan
ifla_vxlan_of = first_with ifla_vxlan_number ifla_vxlan_variants UnrecognizedConst

-- whether a value is a number without a name
abbrev pub ifla_vxlan_is_unrecognized : IflaVxlan → Bool
ifla_vxlan_is_unrecognized (UnrecognizedConst n) = true
ifla_vxlan_is_unrecognized v = false
