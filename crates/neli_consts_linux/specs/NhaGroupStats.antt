-- The numbers of `NhaGroupStats`.
use Rattle.std.specs.Prelude.{ℕ, Bool, true, false, List, [], ◌∷◌}
use Rattle.neli_wire.specs.Constants.{first_with}
use Rattle.neli_consts_linux.specs.declared.next_hops.NhaGroupStats.{NhaGroupStats}
use Rattle.neli_consts_linux.specs.declared.next_hops.NhaGroupStats.TheVariants.{Unspec, Entry, UnrecognizedConst}

-- the number of each variant
abbrev pub nha_group_stats_number : NhaGroupStats → ℕ
nha_group_stats_number Unspec = 0
nha_group_stats_number Entry = 1
nha_group_stats_number (UnrecognizedConst n) = n

-- the variants, in their order
abbrev pub nha_group_stats_variants : List NhaGroupStats
nha_group_stats_variants =
    Unspec ∷ Entry ∷ []

-- the first variant with a number, else the number without a name
abbrev pub nha_group_stats_of : ℕ → NhaGroupStats
nha_group_stats_of = first_with nha_group_stats_number nha_group_stats_variants UnrecognizedConst

-- whether a value is a number without a name
abbrev pub nha_group_stats_is_unrecognized : NhaGroupStats → Bool
nha_group_stats_is_unrecognized (UnrecognizedConst n) = true
nha_group_stats_is_unrecognized v = false
