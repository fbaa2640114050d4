-- The numbers of `Ndta`.
use Rattle.std.specs.Prelude.{ℕ, Bool, true, false, List, [], ◌∷◌}
use Rattle.neli_wire.specs.Constants.{first_with}
use Rattle.neli_consts_linux.specs.declared.neighbours.Ndta.{Ndta}
use Rattle.neli_consts_linux.specs.declared.neighbours.Ndta.TheVariants.{Unspec, Name, Thresh1, Thresh2, Thresh3}
use Rattle.neli_consts_linux.specs.declared.neighbours.Ndta.TheVariants.{Config, Parms, Stats, GcInterval, Pad}
use Rattle.neli_consts_linux.specs.declared.neighbours.Ndta.TheVariants.{UnrecognizedConst}

-- the number of each variant
abbrev pub ndta_number : Ndta → ℕ
ndta_number Unspec = 0
ndta_number Name = 1
ndta_number Thresh1 = 2
ndta_number Thresh2 = 3
ndta_number Thresh3 = 4
ndta_number Config = 5
ndta_number Parms = 6
ndta_number Stats = 7
ndta_number GcInterval = 8
ndta_number Pad = 9
ndta_number (UnrecognizedConst n) = n

-- the variants, in their order
abbrev pub ndta_variants : List Ndta
ndta_variants =
    Unspec ∷ Name ∷ Thresh1 ∷ Thresh2 ∷ Thresh3 ∷ Config ∷ Parms ∷ Stats ∷
    GcInterval ∷ Pad ∷ []

-- the first variant with a number, else the number without a name
abbrev pub ndta_of : ℕ → Ndta
ndta_of = first_with ndta_number ndta_variants UnrecognizedConst

-- whether a value is a number without a name
abbrev pub ndta_is_unrecognized : Ndta → Bool
ndta_is_unrecognized (UnrecognizedConst n) = true
ndta_is_unrecognized v = false
