use Rattle.std.specs.Prelude.{◌≡◌, ℕ, Bool, true, false, Option, Some, None, nat_eq, refl}
use Rattle.std.specs.Option.{option_eq}
use mathlib.Core.Bool.{beq, true≢false}
use mathlib.Core.Path.{ap, sym}
use Rattle.neli_wire.specs.Constants.{IsEquality}
use Rattle.neli_attr.specs.laws.Equality.{bytes-equality, from-parts, pair-equality, parts-equality}
use Rattle.neli_router.specs.declared.handle.HandleState.{HandleState}
use Rattle.neli_router.proofs.laws.equality.Goals as goal

flags : IsEquality beq
flags = from-parts apart same
  where
    apart : (a b : Bool) → beq a b ≡ true → a ≡ b
    apart true true e = refl
    apart false false e = refl
    apart true false e = absurd (true≢false (sym e))
    apart false true e = absurd (true≢false (sym e))

    same : (a : Bool) → beq a a ≡ true
    same true = refl
    same false = refl

numbers : IsEquality (option_eq nat_eq)
numbers = from-parts apart same
  where
    apart : (a b : Option ℕ) → option_eq nat_eq a b ≡ true → a ≡ b
    apart None None e = refl
    apart (Some m) (Some n) e = ap (λ (k : ℕ). Some k) ((bytes-equality m n).0 e)
    apart None (Some n) e = absurd (true≢false (sym e))
    apart (Some m) None e = absurd (true≢false (sym e))

    same : (a : Option ℕ) → option_eq nat_eq a a ≡ true
    same None = refl
    same (Some n) = (bytes-equality n n).1 refl

pub returns : goal.returns
returns c =
    parts-equality (λ (h : HandleState). (h.number, (h.needs_ack, (h.single_given, h.ended))))
    (λ t. record { number = t.0; needs_ack = t.1.0; single_given = t.1.1.0; ended = t.1.1.1 }) (λ h. refl)
    (pair-equality numbers (pair-equality flags (pair-equality flags flags)))
