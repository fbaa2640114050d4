-- The numbers of `IflaStats`.
use Rattle.std.specs.Prelude.{ℕ, Bool, true, false, List, [], ◌∷◌}
use Rattle.neli_wire.specs.Constants.{first_with}
use Rattle.neli_consts_linux.specs.declared.statistics.IflaStats.{IflaStats}
use Rattle.neli_consts_linux.specs.declared.statistics.IflaStats.TheVariants.{Unspec, Link64, LinkXstats}
use Rattle.neli_consts_linux.specs.declared.statistics.IflaStats.TheVariants.{LinkXstatsSlave, LinkOffloadXstats}
use Rattle.neli_consts_linux.specs.declared.statistics.IflaStats.TheVariants.{AfSpec, UnrecognizedConst}

-- the number of each variant
abbrev pub ifla_stats_number : IflaStats → ℕ
ifla_stats_number Unspec = 0
ifla_stats_number Link64 = 1
ifla_stats_number LinkXstats = 2
ifla_stats_number LinkXstatsSlave = 3
ifla_stats_number LinkOffloadXstats = 4
ifla_stats_number AfSpec = 5
ifla_stats_number (UnrecognizedConst n) = n

-- the variants, in their order
abbrev pub ifla_stats_variants : List IflaStats
ifla_stats_variants =
    Unspec ∷ Link64 ∷ LinkXstats ∷ LinkXstatsSlave ∷ LinkOffloadXstats ∷ AfSpec ∷ []

-- the first variant with a number, else the number without a name
abbrev pub ifla_stats_of : ℕ → IflaStats
ifla_stats_of = first_with ifla_stats_number ifla_stats_variants UnrecognizedConst

-- whether a value is a number without a name
abbrev pub ifla_stats_is_unrecognized : IflaStats → Bool
ifla_stats_is_unrecognized (UnrecognizedConst n) = true
ifla_stats_is_unrecognized v = false
