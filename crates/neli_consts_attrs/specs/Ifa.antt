-- The numbers of `Ifa`.
use Rattle.std.specs.Prelude.{ℕ, Bool, true, false, List, [], ◌∷◌}
use Rattle.neli_wire.specs.Constants.{first_with}
use Rattle.neli_consts_attrs.specs.declared.addresses.Ifa.{Ifa}
use Rattle.neli_consts_attrs.specs.declared.addresses.Ifa.TheVariants.{Unspec, Address, Local, Label}
use Rattle.neli_consts_attrs.specs.declared.addresses.Ifa.TheVariants.{Broadcast, Anycast, Cacheinfo, Multicast}
use Rattle.neli_consts_attrs.specs.declared.addresses.Ifa.TheVariants.{Flags, UnrecognizedConst}

-- the number of each variant
abbrev pub ifa_number : Ifa → ℕ
ifa_number Unspec = 0
ifa_number Address = 1
ifa_number Local = 2
ifa_number Label = 3
ifa_number Broadcast = 4
ifa_number Anycast = 5
ifa_number Cacheinfo = 6
ifa_number Multicast = 7
ifa_number Flags = 8
ifa_number (UnrecognizedConst n) = n

-- the variants, in their order
abbrev pub ifa_variants : List Ifa
ifa_variants =
    Unspec ∷ Address ∷ Local ∷ Label ∷ Broadcast ∷ Anycast ∷ Cacheinfo ∷ Multicast ∷ Flags ∷ []

-- the first variant with a number, else the number without a name
abbrev pub ifa_of : ℕ → Ifa
ifa_of = first_with ifa_number ifa_variants UnrecognizedConst

-- whether a value is a number without a name
abbrev pub ifa_is_unrecognized : Ifa → Bool
ifa_is_unrecognized (UnrecognizedConst n) = true
ifa_is_unrecognized v = false
