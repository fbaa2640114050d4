-- What is lent, and the step past it, are those of the delivery as it is read untyped.
use Rattle.std.proofs.Common.{◌≡◌, ℕ, ℤ, Bool, true, false, ◌||◌, List, [], ◌∷◌, length, drop}
use Rattle.std.proofs.Common.{Option, Some, None, Result, Ok, Err, refl, sym, ap, subst, ◌∙◌, arith}
use Rattle.std.specs.Prelude.{◌==◌, bit_and, nat_lt, if◌then◌else◌, option_map}
use Rattle.std.proofs.lemmas.Bool.Decides.{nat_tests}
use Rattle.neli_wire.specs.declared.errors.DeError.{DeError}
use Rattle.neli_wire.specs.Reading.{◌>>=◌}
use Rattle.neli_wire.specs.laws.Reading.{bind_ok, ok_is}
use Rattle.neli_reader.specs.Answers.{after, after_echo, answer, code_in, dump_end_in, echoed_in, ext_ack_in}
use Rattle.neli_reader.specs.Answers.{Attributes, failure_in, headed_in}
use Rattle.neli_reader.specs.Framed.{Nlmsghdr, NlmsghdrErr}
use Rattle.neli_reader.specs.Headers.{Header, header_in}
use Rattle.neli_reader.specs.Kind.{Kind}
use Rattle.neli_reader.specs.Kind.TheVariants.{Body, Nothing, DumpEnd, Acknowledgement, Capped, Failure}
use Rattle.neli_reader.specs.Kinds.{payload_as, payload_in}
use Rattle.neli_reader.specs.NlPayload.{NlPayload}
use Rattle.neli_reader.specs.NlPayload.TheVariants as payload
use Rattle.neli_reader.specs.Nlmsgerr.{Nlmsgerr}
use Rattle.neli_reader.specs.RouterError.TheVariants as router
use Rattle.neli_lent.specs.Messages.{Lent, code_or_zero, lent_kind, message_view}
use Rattle.neli_lent.specs.declared.message.LentMessage.{LentMessage}
use Rattle.neli_deliveries.specs.declared.delivery.Delivery.{Delivery}
use Rattle.neli_deliveries.specs.declared.delivery.Delivery.TheVariants as delivery
use Rattle.neli_deliveries.specs.Deliveries.{head_of, heading_of}
use Rattle.neli_deliveries.specs.declared.delivery.Heading.{Heading}
use Rattle.neli_deliveries.specs.Readings.{Item}
use Rattle.neli_log.specs.Lending.{IsFirstLent, IsLent, Lends, lent_heading}
use Rattle.neli_log.specs.laws.Lending.{heading_lent}
use Rattle.neli_log.specs.declared.lending.LentDelivery.{LentDelivery}
use Rattle.neli_log.specs.declared.lending.LentDelivery.TheVariants as lent
use Rattle.neli_router.specs.Lending.{IsErrorOf, IsLentItem, LentItem, first_verdict, is_lent_flagged}
use Rattle.neli_router.specs.Lending.{kind_answers, kind_end_code, last_of_kind, lent_answers, lent_end_code}
use Rattle.neli_router.specs.Lending.{lent_ends, lent_item, lent_last}
use Rattle.neli_router.specs.Lending.{lent_last_verdict, lent_single, lent_step, lent_verdict, step_by, untyped}
use Rattle.neli_router.specs.Lending.{with_step}
use Rattle.neli_router.specs.Rule.{ends_at, has_number, is_answer, is_single, item_of, last_item, last_item_of_payload}
use Rattle.neli_router.specs.Verdicts.{code_verdict, end_code, heard_after, heard_with, is_flagged}
use Rattle.neli_router.specs.Verdicts.{item_verdict, last_verdict, verdict_with}
use Rattle.neli_router.specs.declared.handle.HandleState.{HandleState}
use Rattle.neli_router.specs.declared.lending.LentError.TheVariants as error
use Rattle.neli_router.specs.declared.lending.Step.{Step}
use Rattle.neli_router.specs.declared.verdict.Heard.{Heard}
use Rattle.neli_router.specs.declared.verdict.Verdict.{Verdict}
use Rattle.neli_router.specs.declared.verdict.Verdict.TheVariants as stands

abbrev same : ℕ → ℕ
same n = n

abbrev all : List ℕ → Result (List ℕ) DeError
all bytes = Ok bytes

-- ---- payloads that are read untyped

-- the code of this answer is the one at the front of the bytes
pub record HasCode {M : Type 0} (s : List ℕ) (e : Nlmsgerr M) : Type 0 where
  pub code : code_or_zero s ≡ e.error

long_enough : (n : ℕ) → nat_lt n 20 ≡ false → nat_lt n 4 ≡ false
long_enough n h = grind (arith, nat_tests)

-- what stands after the first n bytes exists
after_long : (n : ℕ) (s r : List ℕ) → after n s ≡ Ok r → nat_lt (length s) n ≡ false
after_long n s r = by (nat_lt (length s) n) refl
  where
    by : (b : Bool) → nat_lt (length s) n ≡ b → after n s ≡ Ok r → nat_lt (length s) n ≡ false
    by true t h = absurd (let f = rw t at h in cc)
    by false t h = t

code_there : (s : List ℕ) → nat_lt (length s) 4 ≡ false → code_or_zero s ≡ code_in s
code_there s h = rw h refl

dump_end-code : (s : List ℕ) (e : Nlmsgerr (Unit {0})) → dump_end_in s ≡ Ok e → HasCode s e
dump_end-code s e is =
    let r = bind_ok (after 4 s) _ e is in
    let a = bind_ok (ext_ack_in r.0) _ e r.2 in
    record { code = code_there s (after_long 4 s r.0 r.1) ∙ ap (λ (x : Nlmsgerr (Unit {0})). x.error) (ok_is _ e a.2) }

-- an answer that echoes only a header
headed-code : (s : List ℕ) (h : Header ℕ) (read : List ℕ → Result Attributes DeError) (e : Nlmsgerr (Header ℕ))
    → (after 20 s >>= λ rest. (read rest >>= λ attrs. Ok (answer (code_in s) h attrs))) ≡ Ok e → HasCode s e
headed-code s h read e is =
    let r = bind_ok (after 20 s) _ e is in
    let a = bind_ok (read r.0) _ e r.2 in
    record {
      code = code_there s (long_enough (length s) (after_long 20 s r.0 r.1))
          ∙ ap (λ (x : Nlmsgerr (Header ℕ)). x.error) (ok_is _ e a.2);
    }

failure-code : (s : List ℕ) (e : Nlmsgerr (NlmsghdrErr ℕ (List ℕ))) → failure_in same all s ≡ Ok e → HasCode s e
failure-code s e is =
    let r = bind_ok (after 20 s) _ e is in
    let b = bind_ok (echoed_in s) _ e r.2 in
    let a = bind_ok (ext_ack_in (after_echo s)) _ e b.2 in
    record {
      code = code_there s (long_enough (length s) (after_long 20 s r.0 r.1))
          ∙ ap (λ (x : Nlmsgerr (NlmsghdrErr ℕ (List ℕ))). x.error) (ok_is _ e a.2);
    }

-- the payload, by its kind
abbrev IsForm : Kind → List ℕ → NlPayload ℕ (List ℕ) → Type 0
IsForm Body s p = p ≡ payload.Payload s
IsForm Nothing s p = p ≡ payload.Empty
IsForm DumpEnd s p = (e : Nlmsgerr (Unit {0})) × (p ≡ payload.DumpExtAck e) × HasCode s e
IsForm (Acknowledgement tail) s p = (e : Nlmsgerr (Header ℕ)) × (p ≡ payload.Ack e)
IsForm (Capped tail) s p = (e : Nlmsgerr (Header ℕ)) × (p ≡ payload.Capped e) × HasCode s e
IsForm Failure s p = (e : Nlmsgerr (NlmsghdrErr ℕ (List ℕ))) × (p ≡ payload.Err e) × HasCode s e

form : (kind : Kind) (s : List ℕ) (p : NlPayload ℕ (List ℕ)) → payload_as same all kind s ≡ Ok p → IsForm kind s p
form Body s p is = sym (ok_is (payload.Payload s) p is)
form Nothing s p is = sym (ok_is payload.Empty p is)
form DumpEnd s p is =
    let b = bind_ok (dump_end_in s) _ p is in
    (b.0, sym (ok_is (payload.DumpExtAck b.0) p b.2), dump_end-code s b.0 b.1)
form (Acknowledgement tail) s p is =
    let b = bind_ok (headed_in same tail s) _ p is in
    (b.0, sym (ok_is (payload.Ack b.0) p b.2))
form (Capped tail) s p is =
    let b = bind_ok _ (λ (e : Nlmsgerr (Header ℕ)). Ok (payload.Capped e)) p is in
    (b.0, sym (ok_is (payload.Capped b.0) p b.2), headed-code s (header_in same (drop 4 s)) _ b.0 b.1)
form Failure s p is =
    let b = bind_ok (failure_in same all s) _ p is in
    (b.0, sym (ok_is (payload.Err b.0) p b.2), failure-code s b.0 b.1)

answers-by : (kind : Kind) (s : List ℕ) (p : NlPayload ℕ (List ℕ)) → IsForm kind s p → is_answer p ≡ kind_answers kind
answers-by Body s p is = ap is_answer is
answers-by Nothing s p is = ap is_answer is
answers-by DumpEnd s p is = ap is_answer is.1
answers-by (Acknowledgement tail) s p is = ap is_answer is.1
answers-by (Capped tail) s p is = ap is_answer is.1
answers-by Failure s p is = ap is_answer is.1

-- the code at the end of a dump
end-by : (kind : Kind) (s : List ℕ) (p : NlPayload ℕ (List ℕ)) → IsForm kind s p → kind_end_code kind s ≡ end_code p
end-by Body s p is = sym (ap end_code is)
end-by Nothing s p is = sym (ap end_code is)
end-by DumpEnd s p is = is.2.code ∙ sym (ap end_code is.1)
end-by (Acknowledgement tail) s p is = sym (ap end_code is.1)
end-by (Capped tail) s p is = sym (ap end_code is.1)
end-by Failure s p is = sym (ap end_code is.1)

-- the item where the answers end
module _ (needs single : Bool) (w : LentMessage ℕ) (u : Nlmsghdr ℕ (List ℕ)) (lends : Lends (message_view w) u) where
  ack-last : (b : Bool) → IsLentItem (if b then Ok u else Err router.UnexpectedAck)
      (if b then Ok w else Err error.UnexpectedAck)
  ack-last true = (u, lends, refl)
  ack-last false = refl

  body-last : (b : Bool) → IsLentItem (if b then Err router.NoAck else Ok u) (if b then Err error.NoAck else Ok w)
  body-last true = refl
  body-last false = (u, lends, refl)

  error-last : (b : Bool) (item : Item ℕ (List ℕ)) → IsErrorOf (code_or_zero w.payload.now) u.payload item
      → IsLentItem (if b then Err router.NoAck else item)
      (if b then Err error.NoAck else Err (error.Answer (code_or_zero w.payload.now) w))
  error-last true item is = refl
  error-last false item is = (u, lends, is)

  -- where the payload of the message is p
  last-by : (p : NlPayload ℕ (List ℕ)) → u.payload ≡ p → (kind : Kind) → IsForm kind w.payload.now p
      → IsLentItem (last_item_of_payload needs single u p) (last_of_kind kind needs single w)
  last-by p at Body is = rw is (body-last single)
  last-by p at Nothing is = rw is (body-last single)
  last-by p at DumpEnd is = rw is.1 (body-last single)
  last-by p at (Acknowledgement tail) is = rw is.1 (ack-last needs)
  last-by p at (Capped tail) is = rw is.1 (error-last single (Err (router.Capped is.0))
      (rw (at ∙ is.1) (is.2.code, refl)))
  last-by p at Failure is = rw is.1 (error-last single (Err (router.Nlmsgerr is.0))
      (rw (at ∙ is.1) (is.2.code, refl)))

-- ---- a lent message, and the message that it is

-- its header, and its payload's form
pub record IsOne (m : Lent ℕ) (u : Nlmsghdr ℕ (List ℕ)) : Type 0 where
  pub header : m.0 ≡ u.header
  pub payload : payload_in same all m.0.message_type m.0.flags m.1 ≡ Ok u.payload
  pub form : IsForm (lent_kind same m) m.1 u.payload

pub one : (m : Lent ℕ) (u : Nlmsghdr ℕ (List ℕ)) → Lends m u → IsOne m u
one m u is =
    let b = bind_ok (payload_in same all m.0.message_type m.0.flags m.1) _ (u.header, u.payload) is in
    let both = ok_is (m.0, b.0) (u.header, u.payload) b.2 in
    let same_payload = b.1 ∙ ap (λ (x : Header ℕ × NlPayload ℕ (List ℕ)). Ok x.1) both in
    record {
      header = ap (λ (x : Header ℕ × NlPayload ℕ (List ℕ)). x.0) both;
      payload = same_payload;
      form = form (lent_kind same m) m.1 u.payload same_payload;
    }

module _ (m : Lent ℕ) (u : Nlmsghdr ℕ (List ℕ)) (lends : Lends m u) where
  pub answers-is : is_answer u.payload ≡ lent_answers m
  answers-is = answers-by (lent_kind same m) m.1 u.payload (one m u lends).form

  pub end-is : lent_end_code m ≡ end_code u.payload
  end-is = end-by (lent_kind same m) m.1 u.payload (one m u lends).form

  pub single-is : (numbered : Bool) → lent_single numbered m ≡ is_single same numbered (Ok u)
  single-is numbered = rw (answers-is, ← (one m u lends).header) refl

  pub ends-is : (needs numbered single : Bool)
      → lent_ends needs numbered single m ≡ ends_at same needs numbered single (Ok u)
  ends-is needs numbered single = rw (answers-is, ← (one m u lends).header) refl

  pub flag-is : (flag : ℕ) → bit_and m.0.flags.0 flag ≡ bit_and u.header.flags.0 flag
  flag-is flag = ap (λ (h : Header ℕ). bit_and h.flags.0 flag) (one m u lends).header

-- ---- the item that is lent

module _ (w : LentMessage ℕ) (u : Nlmsghdr ℕ (List ℕ)) (lends : Lends (message_view w) u)
    (needs numbered single : Bool) where
  last_lent : IsLentItem (last_item needs single (Ok u)) (lent_last needs single w)
  last_lent = last-by needs single w u lends u.payload refl (lent_kind same (message_view w))
      (one (message_view w) u lends).form

  pub message_lent : IsLentItem (item_of same needs numbered single (Ok u))
      (lent_item needs numbered single (lent.Message w))
  message_lent = rw (ends-is (message_view w) u lends needs numbered single)
      (by (ends_at same needs numbered single (Ok u)))
    where
      by : (b : Bool) → IsLentItem (if b then last_item needs single (Ok u) else Ok u)
          (if b then lent_last needs single w else Ok w)
      by true = last_lent
      by false = (u, lends, refl)

pub item_lent : (needs numbered single : Bool) (d : Delivery) (l : LentDelivery) → IsLent d l
    → IsLentItem (item_of same needs numbered single (untyped d)) (lent_item needs numbered single l)
item_lent needs numbered single (delivery.Message u) (lent.Message w) is = message_lent w u is needs numbered single
item_lent needs numbered single (delivery.Stray u) (lent.Stray w) is = (u, is, refl)
item_lent needs numbered single (delivery.Fault e) (lent.Fault f) is =
    cc
item_lent needs numbered single (delivery.Message u) (lent.Stray w) is = absurd is
item_lent needs numbered single (delivery.Message u) (lent.Fault f) is = absurd is
item_lent needs numbered single (delivery.Stray u) (lent.Message w) is = absurd is
item_lent needs numbered single (delivery.Stray u) (lent.Fault f) is = absurd is
item_lent needs numbered single (delivery.Fault e) (lent.Message w) is = absurd is
item_lent needs numbered single (delivery.Fault e) (lent.Stray w) is = absurd is

-- ---- how the answer stands by it

code_stands : (code : ℤ) (p : NlPayload ℕ (List ℕ)) (item : Item ℕ (List ℕ)) → IsErrorOf code p item
    → (stands.Failed code ≡ last_verdict item) × ((flag : ℕ) → is_flagged flag item ≡ false)
code_stands code (payload.Err e) item is =
    rw is.1 (ap (λ (x : ℤ). stands.Failed x) is.0, λ flag. refl)
code_stands code (payload.Capped e) item is =
    rw is.1 (ap (λ (x : ℤ). stands.Failed x) is.0, λ flag. refl)
code_stands code (payload.Ack e) item is = absurd is
code_stands code (payload.DumpExtAck e) item is = absurd is
code_stands code (payload.Payload b) item is = absurd is
code_stands code payload.Empty item is = absurd is

-- the verdict and the marks of an item are those of the lent one
pub record StandAlike (item : Item ℕ (List ℕ)) (l : LentItem) : Type 0 where
  pub flagged : (flag : ℕ) → is_lent_flagged flag l ≡ is_flagged flag item
  pub last : lent_last_verdict l ≡ last_verdict item

alike : (item : Item ℕ (List ℕ)) (l : LentItem) → IsLentItem item l → StandAlike item l
alike item (Ok w) is = record {
  flagged = λ flag. rw is.2 (ap (λ (n : ℕ). n == flag) (flag-is (message_view w) is.0 is.1 flag));
  last = rw is.2 (ap code_verdict (end-is (message_view w) is.0 is.1));
}
alike item (Err (error.Answer code w)) is =
    let s = code_stands code is.0.payload item is.2 in
    record { flagged = λ flag. sym (s.1 flag); last = s.0 }
alike item (Err error.NoAck) is = record { flagged = λ flag. rw is refl; last = rw is refl }
alike item (Err error.UnexpectedAck) is = record { flagged = λ flag. rw is refl; last = rw is refl }
alike item (Err (error.BadSeqOrPid w)) is = record { flagged = λ flag. rw is.2 refl; last = rw is.2 refl }
alike item (Err (error.Socket e)) is = record { flagged = λ flag. rw is refl; last = rw is refl }
alike item (Err error.ClosedChannel) is = record { flagged = λ flag. rw is refl; last = rw is refl }

verdict_alike : (ended : Bool) (item : Item ℕ (List ℕ)) (l : LentItem) → IsLentItem item l
    → lent_verdict ended l ≡ item_verdict ended item
verdict_alike ended item l is = (let a = alike item l is in rw (a.flagged 16, a.last) refl)

pub first_with : {K P : Type 0} (v : Verdict) (ended : Bool) (item : Item K P)
    → first_verdict v (item_verdict ended item) ≡ verdict_with v ended item
first_with stands.Pending ended item = refl
first_with stands.Complete ended item = refl
first_with stands.Interrupted ended item = refl
first_with (stands.Failed code) ended item = refl
first_with (stands.Lost why) ended item = refl

-- ---- the step

-- a step notes what the item adds
noted : (ended : Bool) (heading : Heading) (item : Item ℕ (List ℕ)) (l : LentItem) (single : Bool) (h : Heard)
    → IsLentItem item l → with_step (step_by single ended heading l) h ≡ heard_after ended heading item h
noted ended heading item l single h is =
    rw (verdict_alike ended item l is, (alike item l is).flagged 32, first_with h.verdict ended item) refl

-- the step past a delivery is that of the delivery read untyped
pub record IsStep (needs numbered single : Bool) (d : Delivery) (step : Step) : Type 0 where
  pub single_is : step.single ≡ is_single same numbered (untyped d)
  pub ended_is : step.ended ≡ ends_at same needs numbered single (untyped d)
  pub heard_is : (h : Heard) → with_step step h ≡ heard_with same needs numbered single d (untyped d) h

-- what it notes, where the delivery is lent
stepped : (needs numbered single ended one : Bool) (d : Delivery) (l : LentDelivery) → IsLent d l
    → ended ≡ ends_at same needs numbered single (untyped d) → (h : Heard)
    → with_step (step_by one ended (lent_heading l) (lent_item needs numbered single l)) h
    ≡ heard_with same needs numbered single d (untyped d) h
stepped needs numbered single ended one d l is ends h =
    let item = item_of same needs numbered single (untyped d) in
    noted ended (lent_heading l) item (lent_item needs numbered single l) one h (item_lent needs numbered single d l is)
    ∙ (ap (λ (k : Heading). heard_after ended k item h) (heading_lent d l is)
    ∙ ap (λ (b : Bool). heard_after b (heading_of d) item h) ends)

pub step_is : (needs numbered single : Bool) (d : Delivery) (l : LentDelivery) → IsLent d l
    → IsStep needs numbered single d (lent_step needs numbered single l)
step_is needs numbered single (delivery.Message u) (lent.Message w) is = record {
  single_is = single-is (message_view w) u is numbered;
  ended_is = ends-is (message_view w) u is needs numbered single;
  heard_is = stepped needs numbered single (lent_ends needs numbered single (message_view w))
      (lent_single numbered (message_view w)) (delivery.Message u) (lent.Message w) is
      (ends-is (message_view w) u is needs numbered single);
}
step_is needs numbered single (delivery.Stray u) (lent.Stray w) is = record {
  single_is = refl;
  ended_is = refl;
  heard_is = stepped needs numbered single true false (delivery.Stray u) (lent.Stray w) is refl;
}
step_is needs numbered single (delivery.Fault e) (lent.Fault f) is = record {
  single_is = refl;
  ended_is = refl;
  heard_is = stepped needs numbered single true false (delivery.Fault e) (lent.Fault f) is refl;
}
step_is needs numbered single (delivery.Message u) (lent.Stray w) is = absurd is
step_is needs numbered single (delivery.Message u) (lent.Fault f) is = absurd is
step_is needs numbered single (delivery.Stray u) (lent.Message w) is = absurd is
step_is needs numbered single (delivery.Stray u) (lent.Fault f) is = absurd is
step_is needs numbered single (delivery.Fault e) (lent.Message w) is = absurd is
step_is needs numbered single (delivery.Fault e) (lent.Stray w) is = absurd is

-- ---- the first delivery

-- what is lent is a delivery that waits
pub lent_first : (o : Option (List Delivery)) (r : Option LentDelivery) (l : LentDelivery) → IsFirstLent (head_of o) r
    → r ≡ Some l → (d : Delivery) × (ds : List Delivery) × (o ≡ Some (d ∷ ds)) × IsLent d l
lent_first None r l first is = absurd cc
lent_first (Some []) r l first is = absurd cc
lent_first (Some (d ∷ ds)) None l first is = absurd first
lent_first (Some (d ∷ ds)) (Some k) l first is =
    (d, ds, refl, (let e : k ≡ l = cc in subst (λ (x : LentDelivery). IsLent d x) e first))

-- it is the one that waits first
its_delivery : (o : Option (List Delivery)) (r : Option LentDelivery) (l : LentDelivery) (d : Delivery)
    (ds : List Delivery) → IsFirstLent (head_of o) r → r ≡ Some l → o ≡ Some (d ∷ ds) → IsLent d l
its_delivery o r l d ds first is waits =
    let f = lent_first o r l first is in
    let both = f.2 in
    let e : f.0 ≡ d = cc (both, waits) in
    subst (λ (x : Delivery). IsLent x l) e f.3

-- so the item that is lent is that delivery's
pub lends_item : (s : HandleState) (o : Option (List Delivery)) (r : Option LentDelivery) (l : LentDelivery)
    (got : LentItem) (d : Delivery) (ds : List Delivery) → IsFirstLent (head_of o) r → r ≡ Some l
    → got ≡ lent_item s.needs_ack (has_number s.number) s.single_given l → o ≡ Some (d ∷ ds)
    → IsLentItem (item_of same s.needs_ack (has_number s.number) s.single_given (untyped d)) got
lends_item s o r l got d ds first is lent waits =
    subst (IsLentItem (item_of same s.needs_ack (has_number s.number) s.single_given (untyped d))) (sym lent)
    (item_lent s.needs_ack (has_number s.number) s.single_given d l (its_delivery o r l d ds first is waits))

-- and the step is past it
pub steps_past : (s : HandleState) (o : Option (List Delivery)) (r : Option LentDelivery) (l : LentDelivery)
    (step : Step) (d : Delivery) (ds : List Delivery) → IsFirstLent (head_of o) r → r ≡ Some l
    → step ≡ lent_step s.needs_ack (has_number s.number) s.single_given l → o ≡ Some (d ∷ ds)
    → IsStep s.needs_ack (has_number s.number) s.single_given d step
steps_past s o r l step d ds first is past waits =
    subst (IsStep s.needs_ack (has_number s.number) s.single_given d) (sym past)
    (step_is s.needs_ack (has_number s.number) s.single_given d l (its_delivery o r l d ds first is waits))

-- the handle after it
pub after_step : (s n : HandleState) (d : Delivery) (step : Step)
    → IsStep s.needs_ack (has_number s.number) s.single_given d step
    → n ≡ record s { single_given = s.single_given || step.single; ended = step.ended } → n ≡ record s {
      single_given = s.single_given || is_single same (has_number s.number) (untyped d);
      ended = ends_at same s.needs_ack (has_number s.number) s.single_given (untyped d);
    }
after_step s n d step is new = new ∙ rw (is.single_is, is.ended_is) refl

pub known_step : (step : Step) (needs numbered single : Bool) (d : Delivery) (o new : Option Heard)
    → IsStep needs numbered single d step → new ≡ option_map (with_step step) o
    → new ≡ option_map (heard_with same needs numbered single d (untyped d)) o
known_step step needs numbered single d None new is h = h
known_step step needs numbered single d (Some x) new is h = h ∙ ap (λ (y : Heard). Some y) (is.heard_is x)
