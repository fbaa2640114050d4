-- The numbers of `TcaStats`.
use Rattle.std.specs.Prelude.{ℕ, Bool, true, false, List, [], ◌∷◌}
use Rattle.neli_wire.specs.Constants.{first_with}
use Rattle.neli_consts_linux.specs.declared.statistics.TcaStats.{TcaStats}
use Rattle.neli_consts_linux.specs.declared.statistics.TcaStats.TheVariants.{Unspec, Basic, RateEst, Queue, App}
use Rattle.neli_consts_linux.specs.declared.statistics.TcaStats.TheVariants.{RateEst64, Pad, BasicHw, Pkt64}
use Rattle.neli_consts_linux.specs.declared.statistics.TcaStats.TheVariants.{UnrecognizedConst}

-- the number of each variant
abbrev pub tca_stats_number : TcaStats → ℕ
tca_stats_number Unspec = 0
tca_stats_number Basic = 1
tca_stats_number RateEst = 2
tca_stats_number Queue = 3
tca_stats_number App = 4
tca_stats_number RateEst64 = 5
tca_stats_number Pad = 6
tca_stats_number BasicHw = 7
tca_stats_number Pkt64 = 8
tca_stats_number (UnrecognizedConst n) = n

-- the variants, in their order
abbrev pub tca_stats_variants : List TcaStats
tca_stats_variants =
    Unspec ∷ Basic ∷ RateEst ∷ Queue ∷ App ∷ RateEst64 ∷ Pad ∷ BasicHw ∷
    Pkt64 ∷ []

-- the first variant with a number, else the number without a name
abbrev pub tca_stats_of : ℕ → TcaStats
tca_stats_of = first_with tca_stats_number tca_stats_variants UnrecognizedConst

-- whether a value is a number without a name
abbrev pub tca_stats_is_unrecognized : TcaStats → Bool
tca_stats_is_unrecognized (UnrecognizedConst n) = true
tca_stats_is_unrecognized v = false
