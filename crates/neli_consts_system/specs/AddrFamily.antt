-- The numbers of `AddrFamily`.
use Rattle.std.specs.Prelude.{ℤ, pos, Bool, true, false, List, [], ◌∷◌}
use Rattle.neli_wire.specs.Constants.{first_with_int}
use Rattle.neli_consts_system.specs.declared.socket.AddrFamily.{AddrFamily}
use Rattle.neli_consts_system.specs.declared.socket.AddrFamily.TheVariants.{UnixOrLocal, Inet, Inet6, Ipx}
use Rattle.neli_consts_system.specs.declared.socket.AddrFamily.TheVariants.{Netlink, X25, Ax25, Atmpvc}
use Rattle.neli_consts_system.specs.declared.socket.AddrFamily.TheVariants.{Appletalk, Packet, Alg, UnrecognizedConst}

-- the number of each variant
abbrev pub addr_family_number : AddrFamily → ℤ
addr_family_number UnixOrLocal = pos 1
addr_family_number Inet = pos 2
addr_family_number Inet6 = pos 10
addr_family_number Ipx = pos 4
addr_family_number Netlink = pos 16
addr_family_number X25 = pos 9
addr_family_number Ax25 = pos 3
addr_family_number Atmpvc = pos 8
addr_family_number Appletalk = pos 5
addr_family_number Packet = pos 17
addr_family_number Alg = pos 38
addr_family_number (UnrecognizedConst n) = n

-- the variants, in their order
abbrev pub addr_family_variants : List AddrFamily
addr_family_variants =
    UnixOrLocal ∷ Inet ∷ Inet6 ∷ Ipx ∷ Netlink ∷ X25 ∷ Ax25 ∷ Atmpvc ∷ Appletalk ∷ Packet ∷ Alg ∷ []

-- the first variant with a number, else the number without a name
abbrev pub addr_family_of : ℤ → AddrFamily
addr_family_of = first_with_int addr_family_number addr_family_variants UnrecognizedConst

-- whether a value is a number without a name
abbrev pub addr_family_is_unrecognized : AddrFamily → Bool
addr_family_is_unrecognized (UnrecognizedConst n) = true
addr_family_is_unrecognized v = false
