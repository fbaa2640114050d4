-- Two sets of one kind are compared by their bits.
use Rattle.std.specs.Prelude.{ℕ, nat_eq}
use mathlib.Core.Path.{ap}
use Rattle.std.proofs.lemmas.Bool.{eqb-true, eq-eqb}
use Rattle.neli_consts_flags.specs.declared.set.FlagSet.{FlagSet}
use Rattle.neli_wire.specs.Constants.{IsEquality}

pub sets-equality : {kind : ℕ} → IsEquality {T = FlagSet ℕ kind} (λ a b. nat_eq a.0 b.0)
sets-equality a b = (λ e i. record { 0 = eqb-true a.0 b.0 e i }, λ e. eq-eqb a.0 b.0 (ap (λ s. s.0) e))
