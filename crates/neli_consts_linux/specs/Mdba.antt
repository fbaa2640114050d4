-- The numbers of `Mdba`.
use Rattle.std.specs.Prelude.{ℕ, Bool, true, false, List, [], ◌∷◌}
use Rattle.neli_wire.specs.Constants.{first_with}
use Rattle.neli_consts_linux.specs.declared.multicast.Mdba.{Mdba}
use Rattle.neli_consts_linux.specs.declared.multicast.Mdba.TheVariants.{Unspec, Mdb, Router, UnrecognizedConst}

-- the number of each variant
abbrev pub mdba_number : Mdba → ℕ
mdba_number Unspec = 0
mdba_number Mdb = 1
mdba_number Router = 2
mdba_number (UnrecognizedConst n) = n

-- the variants, in their order
abbrev pub mdba_variants : List Mdba
mdba_variants =
    Unspec ∷ Mdb ∷ Router ∷ []

-- the first variant with a number, else the number without a name
abbrev pub mdba_of : ℕ → Mdba
mdba_of = first_with mdba_number mdba_variants UnrecognizedConst

-- whether a value is a number without a name
abbrev pub mdba_is_unrecognized : Mdba → Bool
mdba_is_unrecognized (UnrecognizedConst n) = true
mdba_is_unrecognized v = false
