-- The reading of a message: of the same class as the stored message.
use Rattle.std.proofs.Common.{◌≡◌, ◌<◌, ℕ, Bool, true, false, ◌||◌, ◌&&◌, not, List, Result, Ok, refl, sym, ap, ◌∙◌}
use Rattle.std.specs.Prelude.{nat_eq, ◌==◌}
use Rattle.std.proofs.lemmas.Bool.{ne_eqb}
use Rattle.neli_wire.specs.declared.errors.DeError.{DeError}
use Rattle.neli_wire.specs.laws.Reading.{bind_ok, ok_is}
use Rattle.neli_consts.specs.declared.nlm_f.NlmF.{NlmF}
use Rattle.neli_reader.specs.Headers.{Header}
use Rattle.neli_reader.specs.Kinds.{is_multi}
use Rattle.neli_reader.specs.Messages.{message_from}
use Rattle.neli_reader.specs.Framed.{Nlmsghdr}
use Rattle.neli_reader.specs.NlPayload.{NlPayload}
use Rattle.neli_reader.specs.NlPayload.TheVariants as payload
use Rattle.neli_reader.specs.Retyping.{payload_stating, stated_echo, typed_failure, typed_payload}
use Rattle.neli_deliveries.specs.Deliveries.{Untyped}
use Rattle.neli_runs.specs.Rule.{ends_alone, is_answer, is_single, is_whole_reply}
use Rattle.neli_kernel_laws.specs.Complete.{IsPart, IsWhole, is_acknowledgement}
use Rattle.neli_kernel_laws.specs.Turns.{IsReadAs}

-- ---- the class of a payload

module _ {K P V : Type 0} (n : ℕ) (view : P → V) where
  stated-answer : (p : NlPayload K P) → is_answer (payload_stating n view p) ≡ is_answer p
  stated-answer (payload.Payload p) = refl
  stated-answer (payload.Err e) = refl
  stated-answer (payload.Ack e) = refl
  stated-answer (payload.Capped e) = refl
  stated-answer (payload.DumpExtAck e) = refl
  stated-answer payload.Empty = refl

  stated-ack : (p : NlPayload K P) → is_acknowledgement (payload_stating n view p) ≡ is_acknowledgement p
  stated-ack (payload.Payload p) = refl
  stated-ack (payload.Err e) = refl
  stated-ack (payload.Ack e) = refl
  stated-ack (payload.Capped e) = refl
  stated-ack (payload.DumpExtAck e) = refl
  stated-ack payload.Empty = refl

module _ {K V : Type 0} (type_of : ℕ → K) (read : List ℕ → Result V DeError) where
  -- a payload is typed as one of its own kind
  abbrev HasClass : NlPayload ℕ (List ℕ) → NlPayload K V → Type 0
  HasClass p q = (is_answer q ≡ is_answer p) × (is_acknowledgement q ≡ is_acknowledgement p)

  is_of : (p : NlPayload ℕ (List ℕ)) (q r : NlPayload K V) → HasClass p q → q ≡ r → HasClass p r
  is_of p q r has same = (
    ap (λ (x : NlPayload K V). is_answer x) (sym same) ∙ has.0,
    ap (λ (x : NlPayload K V). is_acknowledgement x) (sym same) ∙ has.1,
  )

  typed-class : (p : NlPayload ℕ (List ℕ)) (q : NlPayload K V) → typed_payload type_of read p ≡ Ok q → HasClass p q
  typed-class (payload.Payload bytes) q e =
      let b = bind_ok (read bytes) _ q e in is_of (payload.Payload bytes) (payload.Payload b.0) q (refl, refl)
      (ok_is (payload.Payload b.0) q b.2)
  typed-class (payload.Err f) q e =
      let b = bind_ok (typed_failure type_of read f) _ q e in
      is_of (payload.Err f) (payload.Err b.0) q (refl, refl) (ok_is (payload.Err b.0) q b.2)
  typed-class (payload.Ack f) q e = is_of (payload.Ack f) _ q (refl, refl) (ok_is _ q e)
  typed-class (payload.Capped f) q e = is_of (payload.Capped f) _ q (refl, refl) (ok_is _ q e)
  typed-class (payload.DumpExtAck f) q e = is_of (payload.DumpExtAck f) _ q (refl, refl) (ok_is _ q e)
  typed-class payload.Empty q e = is_of payload.Empty _ q (refl, refl) (ok_is _ q e)

-- ---- messages as they are read

module _ {K P V : Type 0} (type_of : ℕ → K) (number_of : K → ℕ) (view : P → V) (size : P → ℕ) (read : List ℕ
    → Result V DeError) (back : (n : ℕ) → n < 65536 → number_of (type_of n) ≡ n) (u : Untyped) (m : Nlmsghdr K P)
    (is : IsReadAs type_of view size read u (Ok m)) where
  pub read-answer : is_answer m.payload ≡ is_answer u.1
  read-answer = sym (stated-answer (stated_echo u.1) view m.payload)
      ∙ (typed-class type_of read u.1 (payload_stating (stated_echo u.1) view m.payload) is.0).0

  pub read-ack : is_acknowledgement m.payload ≡ is_acknowledgement u.1
  read-ack = sym (stated-ack (stated_echo u.1) view m.payload)
      ∙ (typed-class type_of read u.1 (payload_stating (stated_echo u.1) view m.payload) is.0).1

  pub read-flags : m.header.flags ≡ u.0.flags
  read-flags = ap (λ (h : Header K). h.flags) is.1

  read-type : u.0.message_type < 65536 → number_of m.header.message_type ≡ u.0.message_type
  read-type fits = ap (λ (h : Header K). number_of h.message_type) is.1 ∙ back u.0.message_type fits

  read-whole : u.0.message_type < 65536 → is_whole_reply number_of m ≡ is_whole_reply (λ n. n) (message_from u)
  read-whole fits =
      ap (λ (f : NlmF). not (is_multi f) || (number_of m.header.message_type == 3)) read-flags
      ∙ ap (λ (n : ℕ). not (is_multi u.0.flags) || (n == 3)) (read-type fits)

  -- a single reply or not, if it is no answer
  read-single : is_answer u.1 ≡ false → u.0.message_type < 65536
      → is_single {K = K} {P = P} number_of true (Ok m) ≡ is_whole_reply (λ n. n) (message_from u)
  read-single none fits = ap (λ (b : Bool). not b && is_whole_reply number_of m) (read-answer ∙ none) ∙ read-whole fits

  part-whole : IsPart u → is_whole_reply (λ n. n) (message_from u) ≡ false
  part-whole part =
      let other : nat_eq u.0.message_type 3 ≡ false = ne_eqb _ _ part.no_end in
      ap (λ (b : Bool). not b || (u.0.message_type == 3)) part.multi ∙ other

  pub part-quiet : IsPart u → (ends_alone {K = K} {P = P} (Ok m) ≡ false)
      × (is_single {K = K} {P = P} number_of true (Ok m) ≡ false)
  part-quiet part = (read-answer ∙ part.no_answer, read-single part.no_answer part.type_fits ∙ part-whole part)

  pub whole-single : IsWhole u → (ends_alone {K = K} {P = P} (Ok m) ≡ false)
      × (is_single {K = K} {P = P} number_of true (Ok m) ≡ true)
  whole-single whole = (read-answer ∙ whole.no_answer, read-single whole.no_answer whole.type_fits ∙ whole.whole)
