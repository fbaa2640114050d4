-- The numbers of `Rtax`.
use Rattle.std.specs.Prelude.{ℕ, Bool, true, false, List, [], ◌∷◌}
use Rattle.neli_wire.specs.Constants.{first_with}
use Rattle.neli_consts_linux.specs.declared.metrics.Rtax.{Rtax}
use Rattle.neli_consts_linux.specs.declared.metrics.Rtax.TheVariants.{Unspec, Lock, Mtu, Window, Rtt, Rttvar, Ssthresh}
use Rattle.neli_consts_linux.specs.declared.metrics.Rtax.TheVariants.{Cwnd, Advmss, Reordering, Hoplimit, Initcwnd}
use Rattle.neli_consts_linux.specs.declared.metrics.Rtax.TheVariants.{Features, RtoMin, Initrwnd, Quickack, CcAlgo}
use Rattle.neli_consts_linux.specs.declared.metrics.Rtax.TheVariants.{FastopenNoCookie, UnrecognizedConst}

-- the number of each variant
abbrev pub rtax_number : Rtax → ℕ
rtax_number Unspec = 0
rtax_number Lock = 1
rtax_number Mtu = 2
rtax_number Window = 3
rtax_number Rtt = 4
rtax_number Rttvar = 5
rtax_number Ssthresh = 6
rtax_number Cwnd = 7
rtax_number Advmss = 8
rtax_number Reordering = 9
rtax_number Hoplimit = 10
rtax_number Initcwnd = 11
rtax_number Features = 12
rtax_number RtoMin = 13
rtax_number Initrwnd = 14
rtax_number Quickack = 15
rtax_number CcAlgo = 16
rtax_number FastopenNoCookie = 17
rtax_number (UnrecognizedConst n) = n

-- the variants, in their order
abbrev pub rtax_variants : List Rtax
rtax_variants =
    Unspec ∷ Lock ∷ Mtu ∷ Window ∷ Rtt ∷ Rttvar ∷ Ssthresh ∷ Cwnd ∷ Advmss ∷ Reordering ∷ Hoplimit ∷
    Initcwnd ∷ Features ∷ RtoMin ∷ Initrwnd ∷ Quickack ∷ CcAlgo ∷ FastopenNoCookie ∷ []

-- the first variant with a number, else the number without a name
abbrev pub rtax_of : ℕ → Rtax
rtax_of = first_with rtax_number rtax_variants UnrecognizedConst

-- whether a value is a number without a name
abbrev pub rtax_is_unrecognized : Rtax → Bool
rtax_is_unrecognized (UnrecognizedConst n) = true
rtax_is_unrecognized v = false
