-- The numbers of `NhaGroupStatsEntry`.
use Rattle.std.specs.Prelude.{ℕ, Bool, true, false, List, [], ◌∷◌}
use Rattle.neli_wire.specs.Constants.{first_with}
use Rattle.neli_consts_linux.specs.declared.next_hops.NhaGroupStatsEntry.{NhaGroupStatsEntry}
use Rattle.neli_consts_linux.specs.declared.next_hops.NhaGroupStatsEntry.TheVariants.{Unspec, Id, Packets}
use Rattle.neli_consts_linux.specs.declared.next_hops.NhaGroupStatsEntry.TheVariants.{PacketsHw, UnrecognizedConst}

-- the number of each variant
abbrev pub nha_group_stats_entry_number : NhaGroupStatsEntry → ℕ
nha_group_stats_entry_number Unspec = 0
nha_group_stats_entry_number Id = 1
nha_group_stats_entry_number Packets = 2
nha_group_stats_entry_number PacketsHw = 3
nha_group_stats_entry_number (UnrecognizedConst n) = n

-- the variants, in their order
abbrev pub nha_group_stats_entry_variants : List NhaGroupStatsEntry
nha_group_stats_entry_variants =
    Unspec ∷ Id ∷ Packets ∷ PacketsHw ∷ []

-- the first variant with a number, else the number without a name
abbrev pub nha_group_stats_entry_of : ℕ → NhaGroupStatsEntry
nha_group_stats_entry_of = first_with nha_group_stats_entry_number nha_group_stats_entry_variants UnrecognizedConst

-- whether a value is a number without a name
abbrev pub nha_group_stats_entry_is_unrecognized : NhaGroupStatsEntry → Bool
nha_group_stats_entry_is_unrecognized (UnrecognizedConst n) = true
nha_group_stats_entry_is_unrecognized v = false
