-- The message that is lent from a span.
use Rattle.std.proofs.Common.{◌≡◌, ℕ, List, [], Result, Ok, Err, sym, ap, ◌∙◌}
use Rattle.std.specs.Prelude.{IsErr}
use Rattle.neli_wire.specs.declared.errors.DeError.{DeError}
use Rattle.neli_wire.specs.Frames.{frame_at}
use Rattle.neli_wire.specs.laws.Reading.{bind_ok, ok_is}
use Rattle.neli_reader.specs.Agreement.{untyped_layout}
use Rattle.neli_reader.specs.Messages.{message_from}
use Rattle.neli_lent.specs.Messages.{Lent, as_owned, lent_message}
use Rattle.neli_lent.specs.Spans.{IsSpan, Spells}
use Rattle.neli_lent.specs.laws.Messages.{owned-read, owned-refused}
use Rattle.neli_deliveries.specs.Deliveries.{Untyped}
use Rattle.neli_log.specs.Lending.{Lends}

abbrev same : ℕ → ℕ
same n = n

abbrev all : List ℕ → Result (List ℕ) DeError
all bytes = Ok bytes

-- a span is never refused
pub span_lent : (s : List ℕ) (e : DeError) → IsSpan s → frame_at (lent_message same) s ≡ Err e → ⊥
span_lent s e is refused = by (frame_at untyped_layout s) (owned-refused same same all s e refused) is.0 is.1
  where
    by : (r : Result (Untyped × List ℕ) DeError) → IsErr r → (u : Untyped) → r ≡ Ok (u, []) → ⊥
    by (Ok x) h u is = cc
    by (Err d) h u is = cc

-- what is lent from it is its message
pub span_lends : (s r : List ℕ) (m : Lent ℕ) (u : Untyped) → frame_at (lent_message same) s ≡ Ok (m, r) → Spells s u
    → Lends m (message_from u)
span_lends s r m u lent is =
    let b = bind_ok (as_owned same same all m) _ (u, []) (sym (owned-read same same all s r m lent) ∙ is) in
    let first : Untyped × List ℕ → Untyped = λ p. p.0 in
    b.1 ∙ ap (λ (x : Untyped). Ok x) (ap first (ok_is (b.0, r) (u, []) b.2))
