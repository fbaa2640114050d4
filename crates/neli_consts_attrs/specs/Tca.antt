-- The numbers of `Tca`.
use Rattle.std.specs.Prelude.{ℕ, Bool, true, false, List, [], ◌∷◌}
use Rattle.neli_wire.specs.Constants.{first_with}
use Rattle.neli_consts_attrs.specs.declared.queues.Tca.{Tca}
use Rattle.neli_consts_attrs.specs.declared.queues.Tca.TheVariants.{Unspec, Kind, Options, Stats, Xstats}
use Rattle.neli_consts_attrs.specs.declared.queues.Tca.TheVariants.{Rate, Fcnt, Stats2, Stab, UnrecognizedConst}

-- the number of each variant
abbrev pub tca_number : Tca → ℕ
tca_number Unspec = 0
tca_number Kind = 1
tca_number Options = 2
tca_number Stats = 3
tca_number Xstats = 4
tca_number Rate = 5
tca_number Fcnt = 6
tca_number Stats2 = 7
tca_number Stab = 8
tca_number (UnrecognizedConst n) = n

-- the variants, in their order
abbrev pub tca_variants : List Tca
tca_variants =
    Unspec ∷ Kind ∷ Options ∷ Stats ∷ Xstats ∷ Rate ∷ Fcnt ∷ Stats2 ∷ Stab ∷ []

-- the first variant with a number, else the number without a name
abbrev pub tca_of : ℕ → Tca
tca_of = first_with tca_number tca_variants UnrecognizedConst

-- whether a value is a number without a name
abbrev pub tca_is_unrecognized : Tca → Bool
tca_is_unrecognized (UnrecognizedConst n) = true
tca_is_unrecognized v = false
