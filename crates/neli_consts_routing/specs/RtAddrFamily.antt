-- The numbers of `RtAddrFamily`.
use Rattle.std.specs.Prelude.{ℕ, Bool, true, false, List, [], ◌∷◌}
use Rattle.neli_wire.specs.Constants.{first_with}
use Rattle.neli_consts_routing.specs.declared.addresses.RtAddrFamily.{RtAddrFamily}
use Rattle.neli_consts_routing.specs.declared.addresses.RtAddrFamily.TheVariants.{Unspecified, UnixOrLocal, Inet, Inet6}
use Rattle.neli_consts_routing.specs.declared.addresses.RtAddrFamily.TheVariants.{Ipx, Netlink, X25, Ax25}
use Rattle.neli_consts_routing.specs.declared.addresses.RtAddrFamily.TheVariants.{Atmpvc, Appletalk, Packet, Alg}
use Rattle.neli_consts_routing.specs.declared.addresses.RtAddrFamily.TheVariants.{UnrecognizedConst}

-- the number of each variant
abbrev pub rt_addr_family_number : RtAddrFamily → ℕ
rt_addr_family_number Unspecified = 0
rt_addr_family_number UnixOrLocal = 1
rt_addr_family_number Inet = 2
rt_addr_family_number Inet6 = 10
rt_addr_family_number Ipx = 4
rt_addr_family_number Netlink = 16
rt_addr_family_number X25 = 9
rt_addr_family_number Ax25 = 3
rt_addr_family_number Atmpvc = 8
rt_addr_family_number Appletalk = 5
rt_addr_family_number Packet = 17
rt_addr_family_number Alg = 38
rt_addr_family_number (UnrecognizedConst n) = n

-- the variants, in their order
abbrev pub rt_addr_family_variants : List RtAddrFamily
rt_addr_family_variants =
    Unspecified ∷ UnixOrLocal ∷ Inet ∷ Inet6 ∷ Ipx ∷ Netlink ∷ X25 ∷ Ax25 ∷ Atmpvc ∷ Appletalk ∷
    Packet ∷ Alg ∷ []

-- the first variant with a number, else the number without a name
abbrev pub rt_addr_family_of : ℕ → RtAddrFamily
rt_addr_family_of = first_with rt_addr_family_number rt_addr_family_variants UnrecognizedConst

-- whether a value is a number without a name
abbrev pub rt_addr_family_is_unrecognized : RtAddrFamily → Bool
rt_addr_family_is_unrecognized (UnrecognizedConst n) = true
rt_addr_family_is_unrecognized v = false
