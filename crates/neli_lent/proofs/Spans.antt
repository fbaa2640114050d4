-- The message in a span, and the one lent from it.
use Rattle.std.proofs.Common.{◌≡◌, ℕ, Bool, true, false, List, [], Result, Ok, Err, refl, sym, ap, ◌∙◌, ◌<◌, ◌+◌, arith}
use Rattle.std.specs.Prelude.{IsErr, nat_lt}
use Rattle.std.proofs.lemmas.Bool.Decides.{nat_tests}
use Rattle.neli_wire.specs.declared.errors.DeError.{DeError}
use Rattle.neli_wire.specs.Frames.{frame_at}
use Rattle.neli_wire.specs.Sizes.{align}
use Rattle.neli_wire.specs.laws.Reading.{bind_ok, ok_is}
use Rattle.neli_attr.specs.Builders.{Fault}
use Rattle.neli_reader.specs.Builders.{own_length}
use Rattle.neli_reader.specs.Agreement.{untyped_layout}
use Rattle.neli_reader.specs.Headers.{Header}
use Rattle.neli_reader.specs.Kinds.{payload_in, payload_view}
use Rattle.neli_reader.specs.Messages.{Message, message_of}
use Rattle.neli_reader.specs.Framed.{Nlmsghdr}
use Rattle.neli_reader.specs.NlPayload.{NlPayload}
use Rattle.neli_reader.specs.NlPayload.TheVariants as payload
use Rattle.neli_lent.specs.Messages.{Lent, as_owned, lent_message}
use Rattle.neli_lent.specs.Spans.{Spells}
use Rattle.neli_lent.specs.laws.Messages.{owned-read, owned-refused}

abbrev pub same : ℕ → ℕ
same n = n

abbrev pub all : List ℕ → Result (List ℕ) DeError
all bytes = Ok bytes

-- a span is never refused
pub span_lent : (s : List ℕ) (u : Message ℕ (List ℕ)) (e : DeError) → Spells s u
    → frame_at (lent_message same) s ≡ Err e → ⊥
span_lent s u e is refused = by (frame_at untyped_layout s) (owned-refused same same all s e refused) is
  where
    by : (r : Result (Message ℕ (List ℕ) × List ℕ) DeError) → IsErr r → r ≡ Ok (u, []) → ⊥
    by (Ok x) h is = cc
    by (Err d) h is = cc

-- the lent message becomes the span's message
pub span_owned : (s r : List ℕ) (m : Lent ℕ) (u : Message ℕ (List ℕ)) → frame_at (lent_message same) s ≡ Ok (m, r)
    → Spells s u → as_owned same same all m ≡ Ok u
span_owned s r m u lent is =
    let b = bind_ok (as_owned same same all m) _ (u, []) (sym (owned-read same same all s r m lent) ∙ is) in
    let first : Message ℕ (List ℕ) × List ℕ → Message ℕ (List ℕ) = λ p. p.0 in
    b.1 ∙ ap (λ (x : Message ℕ (List ℕ)). Ok x) (ap first (ok_is (b.0, r) (u, []) b.2))

payload_same : (p : NlPayload ℕ (List ℕ)) → payload_view (λ b. b) p ≡ p
payload_same (payload.Payload b) = refl
payload_same (payload.Err e) = refl
payload_same (payload.Ack e) = refl
payload_same (payload.Capped e) = refl
payload_same (payload.DumpExtAck e) = refl
payload_same payload.Empty = refl

-- the owned message is the span's
pub span_message : (s r : List ℕ) (m : Lent ℕ) (w : Nlmsghdr ℕ (List ℕ)) → frame_at (lent_message same) s ≡ Ok (m, r)
    → as_owned same same all m ≡ Ok (message_of (λ b. b) w)
    → (u : Message ℕ (List ℕ)) → Spells s u → u ≡ (w.header, w.payload)
span_message s r m w lent owned u is =
    ok_is u (message_of (λ b. b) w) (sym (span_owned s r m u lent is) ∙ owned)
    ∙ ap (λ (p : NlPayload ℕ (List ℕ)). (w.header, p)) (payload_same w.payload)

-- the lent message has the span's header
pub span_header : (s r : List ℕ) (m : Lent ℕ) (u : Message ℕ (List ℕ)) → frame_at (lent_message same) s ≡ Ok (m, r)
    → Spells s u → u.0 ≡ m.0
span_header s r m u lent is =
    let b = bind_ok (payload_in same all m.0.message_type m.0.flags m.1) _ u (span_owned s r m u lent is) in
    let head : Message ℕ (List ℕ) → Header ℕ = λ x. x.0 in
    sym (ap head (ok_is (m.0, b.0) u b.2))

-- a body is its bytes
pub span_body : (s r : List ℕ) (m : Lent ℕ) → frame_at (lent_message same) s ≡ Ok (m, r)
    → as_owned same same all m ≡ Ok (m.0, payload.Payload m.1)
    → (u : Message ℕ (List ℕ)) → Spells s u → u ≡ (m.0, payload.Payload m.1)
span_body s r m lent body u is = ok_is u (m.0, payload.Payload m.1) (sym (span_owned s r m u lent is) ∙ body)

-- a refused length is too long
pub length_refused : (n : ℕ) (fault : Fault) → own_length n ≡ Err fault → 4294967295 < align (16 + n)
length_refused n fault is = by (nat_lt 4294967295 (align (16 + n))) refl is
  where
    by : (b : Bool) → nat_lt 4294967295 (align (16 + n)) ≡ b → own_length n ≡ Err fault → 4294967295 < align (16 + n)
    by true t h = grind (arith, nat_tests)
    by false t h = absurd (let f = rw t at h in cc)
