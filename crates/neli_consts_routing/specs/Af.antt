-- The numbers of `Af`.
use Rattle.std.specs.Prelude.{ℕ, Bool, true, false, List, [], ◌∷◌}
use Rattle.neli_wire.specs.Constants.{first_with}
use Rattle.neli_consts_routing.specs.declared.addresses.Af.{Af}
use Rattle.neli_consts_routing.specs.declared.addresses.Af.TheVariants.{Inet, Inet6, UnrecognizedConst}

-- the number of each variant
abbrev pub af_number : Af → ℕ
af_number Inet = 2
af_number Inet6 = 10
af_number (UnrecognizedConst n) = n

-- the variants, in their order
abbrev pub af_variants : List Af
af_variants =
    Inet ∷ Inet6 ∷ []

-- the first variant with a number, else the number without a name
abbrev pub af_of : ℕ → Af
af_of = first_with af_number af_variants UnrecognizedConst

-- whether a value is a number without a name
abbrev pub af_is_unrecognized : Af → Bool
af_is_unrecognized (UnrecognizedConst n) = true
af_is_unrecognized v = false
