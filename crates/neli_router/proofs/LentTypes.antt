-- A lent read is an owned one of any types.
use Rattle.std.proofs.Common.{◌≡◌, ℕ, ℤ, Bool, true, false, ◌<◌, ◌^◌, List, Result, Ok, Err, refl, sym, ap, subst, ◌∙◌}
use Rattle.std.specs.Prelude.{◌==◌, bit_and, if◌then◌else◌}
use Rattle.neli_wire.specs.declared.errors.DeError.{DeError}
use Rattle.neli_wire.specs.laws.Reading.{bind_ok, ok_is}
use Rattle.neli_reader.specs.Framed.{Nlmsghdr, NlmsghdrErr}
use Rattle.neli_reader.specs.Headers.{Header}
use Rattle.neli_reader.specs.NlPayload.{NlPayload}
use Rattle.neli_reader.specs.NlPayload.TheVariants as payload
use Rattle.neli_reader.specs.Nlmsgerr.{Nlmsgerr}
use Rattle.neli_reader.specs.Retyping.{HasOwnEcho, IsTyped, IsTypedError, failure_stating, payload_stating, stated_echo}
use Rattle.neli_reader.specs.Retyping.{typed_acknowledgement, typed_echo, typed_failure, typed_header, typed_payload}
use Rattle.neli_reader.specs.RouterError.{RouterError}
use Rattle.neli_reader.specs.RouterError.TheVariants as router
use Rattle.neli_reader.specs.laws.Retyping.{payload_in-typed}
use Rattle.neli_lent.specs.Messages.{Lent, as_owned}
use Rattle.neli_deliveries.specs.declared.delivery.Delivery.{Delivery}
use Rattle.neli_deliveries.specs.declared.delivery.Delivery.TheVariants as delivery
use Rattle.neli_deliveries.specs.Deliveries.{heading_of}
use Rattle.neli_deliveries.specs.Readings.{IsReading, Item}
use Rattle.neli_deliveries.specs.declared.delivery.Heading.{Heading}
use Rattle.neli_log.specs.Lending.{Lends}
use Rattle.neli_router.proofs.LentItems.{first_with, one}
use Rattle.neli_router.specs.Lending.{HasType, IsReadable, IsTypedItem, untyped}
use Rattle.neli_router.specs.Rule.{ends_at, is_answer, is_single, item_of, last_item, last_item_of_payload}
use Rattle.neli_router.specs.Verdicts.{code_verdict, end_code, error_verdict, heard_after, heard_with, is_flagged}
use Rattle.neli_router.specs.Verdicts.{last_verdict, verdict_with}
use Rattle.neli_router.specs.declared.verdict.Heard.{Heard}
use Rattle.neli_router.specs.declared.verdict.Verdict.{Verdict}
use Rattle.neli_router.specs.declared.verdict.Verdict.TheVariants as stands

abbrev same : ℕ → ℕ
same n = n

abbrev done : {A : Type 0} → A → Result A DeError
done x = Ok x

module _ {K P V : Type 0} (type_of : ℕ → K) (view : P → V) (size : P → ℕ) (read : List ℕ → Result V DeError) where
  -- ---- payloads

  -- the second is the first in the caller's types
  abbrev SameForm : ℕ → NlPayload ℕ (List ℕ) → NlPayload K P → Type 0
  SameForm len (payload.Payload a) (payload.Payload b) = Unit {0}
  SameForm len (payload.Err a) (payload.Err b) =
      (typed_failure type_of read a ≡ Ok (failure_stating len view b)) × (a.error ≡ b.error)
  SameForm len (payload.Ack a) (payload.Ack b) = Unit {0}
  SameForm len (payload.Capped a) (payload.Capped b) = typed_acknowledgement type_of a ≡ b
  SameForm len (payload.DumpExtAck a) (payload.DumpExtAck b) = a ≡ b
  SameForm len payload.Empty payload.Empty = Unit {0}
  SameForm len a b = ⊥

  failure_error : (a : Nlmsgerr (NlmsghdrErr ℕ (List ℕ))) (f : Nlmsgerr (NlmsghdrErr K V))
      → typed_failure type_of read a ≡ Ok f → a.error ≡ f.error
  failure_error a f is =
      let t = bind_ok (typed_echo type_of read a.nlmsg) _ f is in
      ap (λ (x : Nlmsgerr (NlmsghdrErr K V)). x.error) (ok_is _ f t.2)

  failure_form : (len : ℕ) (a : Nlmsgerr (NlmsghdrErr ℕ (List ℕ))) (b : Nlmsgerr (NlmsghdrErr K P))
      → typed_payload type_of read (payload.Err a) ≡ Ok (payload_stating len view (payload.Err b))
      → SameForm len (payload.Err a) (payload.Err b)
  failure_form len a b is =
      let t = bind_ok (typed_failure type_of read a) _ (payload_stating len view (payload.Err b)) is in
      let e : payload.Err t.0 ≡ payload.Err (failure_stating len view b) = ok_is _ _ t.2 in
      let f : t.0 ≡ failure_stating len view b = cc in
      let known = t.1 ∙ ap (λ (x : Nlmsgerr (NlmsghdrErr K V)). done x) f in
      (known, failure_error a (failure_stating len view b) known)

  same_form : (len : ℕ) (p : NlPayload ℕ (List ℕ)) (q : NlPayload K P)
      → typed_payload type_of read p ≡ Ok (payload_stating len view q) → SameForm len p q
  same_form len (payload.Payload a) (payload.Payload b) is = tt
  same_form len (payload.Payload a) (payload.Err b) is = absurd (let t = bind_ok (read a) _ (payload_stating len view (payload.Err b)) is in cc)
  same_form len (payload.Payload a) (payload.Ack b) is = absurd (let t = bind_ok (read a) _ (payload_stating len view (payload.Ack b)) is in cc)
  same_form len (payload.Payload a) (payload.Capped b) is = absurd (let t = bind_ok (read a) _ (payload_stating len view (payload.Capped b)) is in cc)
  same_form len (payload.Payload a) (payload.DumpExtAck b) is = absurd (let t = bind_ok (read a) _ (payload_stating len view (payload.DumpExtAck b)) is in cc)
  same_form len (payload.Payload a) payload.Empty is = absurd (let t = bind_ok (read a) _ (payload_stating len view payload.Empty) is in cc)
  same_form len (payload.Err a) (payload.Payload b) is = absurd (let t = bind_ok (typed_failure type_of read a) _ (payload_stating len view (payload.Payload b)) is in cc)
  same_form len (payload.Err a) (payload.Err b) is = failure_form len a b is
  same_form len (payload.Err a) (payload.Ack b) is = absurd (let t = bind_ok (typed_failure type_of read a) _ (payload_stating len view (payload.Ack b)) is in cc)
  same_form len (payload.Err a) (payload.Capped b) is = absurd (let t = bind_ok (typed_failure type_of read a) _ (payload_stating len view (payload.Capped b)) is in cc)
  same_form len (payload.Err a) (payload.DumpExtAck b) is = absurd (let t = bind_ok (typed_failure type_of read a) _ (payload_stating len view (payload.DumpExtAck b)) is in cc)
  same_form len (payload.Err a) payload.Empty is = absurd (let t = bind_ok (typed_failure type_of read a) _ (payload_stating len view payload.Empty) is in cc)
  same_form len (payload.Ack a) (payload.Payload b) is = absurd cc
  same_form len (payload.Ack a) (payload.Err b) is = absurd cc
  same_form len (payload.Ack a) (payload.Ack b) is = tt
  same_form len (payload.Ack a) (payload.Capped b) is = absurd cc
  same_form len (payload.Ack a) (payload.DumpExtAck b) is = absurd cc
  same_form len (payload.Ack a) payload.Empty is = absurd cc
  same_form len (payload.Capped a) (payload.Payload b) is = absurd cc
  same_form len (payload.Capped a) (payload.Err b) is = absurd cc
  same_form len (payload.Capped a) (payload.Ack b) is = absurd cc
  same_form len (payload.Capped a) (payload.Capped b) is = (let e : payload.Capped (typed_acknowledgement type_of a) ≡ payload.Capped b = ok_is _ _ is in cc)
  same_form len (payload.Capped a) (payload.DumpExtAck b) is = absurd cc
  same_form len (payload.Capped a) payload.Empty is = absurd cc
  same_form len (payload.DumpExtAck a) (payload.Payload b) is = absurd cc
  same_form len (payload.DumpExtAck a) (payload.Err b) is = absurd cc
  same_form len (payload.DumpExtAck a) (payload.Ack b) is = absurd cc
  same_form len (payload.DumpExtAck a) (payload.Capped b) is = absurd cc
  same_form len (payload.DumpExtAck a) (payload.DumpExtAck b) is = (let e : payload.DumpExtAck a ≡ payload.DumpExtAck b = ok_is _ _ is in cc)
  same_form len (payload.DumpExtAck a) payload.Empty is = absurd cc
  same_form len payload.Empty (payload.Payload b) is = absurd cc
  same_form len payload.Empty (payload.Err b) is = absurd cc
  same_form len payload.Empty (payload.Ack b) is = absurd cc
  same_form len payload.Empty (payload.Capped b) is = absurd cc
  same_form len payload.Empty (payload.DumpExtAck b) is = absurd cc
  same_form len payload.Empty payload.Empty is = tt

  -- both are answers or neither is, and their codes are the same
  same_end : (len : ℕ) (p : NlPayload ℕ (List ℕ)) (q : NlPayload K P) → SameForm len p q
      → (is_answer p ≡ is_answer q) × (end_code p ≡ end_code q)
  same_end len (payload.Payload a) (payload.Payload b) is = (refl, refl)
  same_end len (payload.Payload a) (payload.Err b) is = absurd is
  same_end len (payload.Payload a) (payload.Ack b) is = absurd is
  same_end len (payload.Payload a) (payload.Capped b) is = absurd is
  same_end len (payload.Payload a) (payload.DumpExtAck b) is = absurd is
  same_end len (payload.Payload a) payload.Empty is = absurd is
  same_end len (payload.Err a) (payload.Payload b) is = absurd is
  same_end len (payload.Err a) (payload.Err b) is = (refl, refl)
  same_end len (payload.Err a) (payload.Ack b) is = absurd is
  same_end len (payload.Err a) (payload.Capped b) is = absurd is
  same_end len (payload.Err a) (payload.DumpExtAck b) is = absurd is
  same_end len (payload.Err a) payload.Empty is = absurd is
  same_end len (payload.Ack a) (payload.Payload b) is = absurd is
  same_end len (payload.Ack a) (payload.Err b) is = absurd is
  same_end len (payload.Ack a) (payload.Ack b) is = (refl, refl)
  same_end len (payload.Ack a) (payload.Capped b) is = absurd is
  same_end len (payload.Ack a) (payload.DumpExtAck b) is = absurd is
  same_end len (payload.Ack a) payload.Empty is = absurd is
  same_end len (payload.Capped a) (payload.Payload b) is = absurd is
  same_end len (payload.Capped a) (payload.Err b) is = absurd is
  same_end len (payload.Capped a) (payload.Ack b) is = absurd is
  same_end len (payload.Capped a) (payload.Capped b) is = (refl, refl)
  same_end len (payload.Capped a) (payload.DumpExtAck b) is = absurd is
  same_end len (payload.Capped a) payload.Empty is = absurd is
  same_end len (payload.DumpExtAck a) (payload.Payload b) is = absurd is
  same_end len (payload.DumpExtAck a) (payload.Err b) is = absurd is
  same_end len (payload.DumpExtAck a) (payload.Ack b) is = absurd is
  same_end len (payload.DumpExtAck a) (payload.Capped b) is = absurd is
  same_end len (payload.DumpExtAck a) (payload.DumpExtAck b) is = (refl, ap (λ (e : Nlmsgerr (Unit {0})). e.error) is)
  same_end len (payload.DumpExtAck a) payload.Empty is = absurd is
  same_end len payload.Empty (payload.Payload b) is = absurd is
  same_end len payload.Empty (payload.Err b) is = absurd is
  same_end len payload.Empty (payload.Ack b) is = absurd is
  same_end len payload.Empty (payload.Capped b) is = absurd is
  same_end len payload.Empty (payload.DumpExtAck b) is = absurd is
  same_end len payload.Empty payload.Empty is = (refl, refl)

  same_answers : (len : ℕ) (p : NlPayload ℕ (List ℕ)) (q : NlPayload K P) → SameForm len p q → is_answer p ≡ is_answer q
  same_answers len p q is = (same_end len p q is).0

  same_code : (len : ℕ) (p : NlPayload ℕ (List ℕ)) (q : NlPayload K P) → SameForm len p q → end_code p ≡ end_code q
  same_code len p q is = (same_end len p q is).1

  -- ---- the item where the answers end

  module _ (needs single : Bool) (u : Nlmsghdr ℕ (List ℕ)) (m : Nlmsghdr K P)
      (typed : IsTyped type_of view size read u m) where
    abbrev TheItem : Item ℕ (List ℕ) → Item K P → Type 0
    TheItem x y = IsTypedItem type_of view size read x y

    ack-typed : (b : Bool) → TheItem (if b then Ok u else Err router.UnexpectedAck)
        (if b then Ok m else Err router.UnexpectedAck)
    ack-typed true = typed
    ack-typed false = refl

    body-typed : (b : Bool) → TheItem (if b then Err router.NoAck else Ok u) (if b then Err router.NoAck else Ok m)
    body-typed true = refl
    body-typed false = typed

    error-typed : (b : Bool) (e : RouterError ℕ (List ℕ)) (f : RouterError K P)
        → IsTypedError type_of view size read e f
        → TheItem (if b then Err router.NoAck else Err e) (if b then Err router.NoAck else Err f)
    error-typed true e f is = refl
    error-typed false e f is = is

    last-typed : (p : NlPayload ℕ (List ℕ)) (q : NlPayload K P) → stated_echo u.payload ≡ stated_echo p
        → HasOwnEcho size q → SameForm (stated_echo u.payload) p q
        → TheItem (last_item_of_payload needs single u p) (last_item_of_payload needs single m q)
    last-typed (payload.Payload a) (payload.Payload b) echo own is = body-typed single
    last-typed (payload.Payload a) (payload.Err b) echo own is = absurd is
    last-typed (payload.Payload a) (payload.Ack b) echo own is = absurd is
    last-typed (payload.Payload a) (payload.Capped b) echo own is = absurd is
    last-typed (payload.Payload a) (payload.DumpExtAck b) echo own is = absurd is
    last-typed (payload.Payload a) payload.Empty echo own is = absurd is
    last-typed (payload.Err a) (payload.Payload b) echo own is = absurd is
    last-typed (payload.Err a) (payload.Err b) echo own is = error-typed single (router.Nlmsgerr a) (router.Nlmsgerr b)
        (is.0 ∙ ap (λ (n : ℕ). done (failure_stating n view b)) echo, own)
    last-typed (payload.Err a) (payload.Ack b) echo own is = absurd is
    last-typed (payload.Err a) (payload.Capped b) echo own is = absurd is
    last-typed (payload.Err a) (payload.DumpExtAck b) echo own is = absurd is
    last-typed (payload.Err a) payload.Empty echo own is = absurd is
    last-typed (payload.Ack a) (payload.Payload b) echo own is = absurd is
    last-typed (payload.Ack a) (payload.Err b) echo own is = absurd is
    last-typed (payload.Ack a) (payload.Ack b) echo own is = ack-typed needs
    last-typed (payload.Ack a) (payload.Capped b) echo own is = absurd is
    last-typed (payload.Ack a) (payload.DumpExtAck b) echo own is = absurd is
    last-typed (payload.Ack a) payload.Empty echo own is = absurd is
    last-typed (payload.Capped a) (payload.Payload b) echo own is = absurd is
    last-typed (payload.Capped a) (payload.Err b) echo own is = absurd is
    last-typed (payload.Capped a) (payload.Ack b) echo own is = absurd is
    last-typed (payload.Capped a) (payload.Capped b) echo own is = error-typed single (router.Capped a) (router.Capped b) (cc)
    last-typed (payload.Capped a) (payload.DumpExtAck b) echo own is = absurd is
    last-typed (payload.Capped a) payload.Empty echo own is = absurd is
    last-typed (payload.DumpExtAck a) (payload.Payload b) echo own is = absurd is
    last-typed (payload.DumpExtAck a) (payload.Err b) echo own is = absurd is
    last-typed (payload.DumpExtAck a) (payload.Ack b) echo own is = absurd is
    last-typed (payload.DumpExtAck a) (payload.Capped b) echo own is = absurd is
    last-typed (payload.DumpExtAck a) (payload.DumpExtAck b) echo own is = body-typed single
    last-typed (payload.DumpExtAck a) payload.Empty echo own is = absurd is
    last-typed payload.Empty (payload.Payload b) echo own is = absurd is
    last-typed payload.Empty (payload.Err b) echo own is = absurd is
    last-typed payload.Empty (payload.Ack b) echo own is = absurd is
    last-typed payload.Empty (payload.Capped b) echo own is = absurd is
    last-typed payload.Empty (payload.DumpExtAck b) echo own is = absurd is
    last-typed payload.Empty payload.Empty echo own is = body-typed single

  -- ---- one message

  module _ (number_of : K → ℕ) (back : (n : ℕ) → n < 256 ^ 2 → number_of (type_of n) ≡ n) where
    module _ (u : Nlmsghdr ℕ (List ℕ)) (m : Nlmsghdr K P) (typed : IsTyped type_of view size read u m)
        (fits : u.header.message_type < 256 ^ 2) where
      form : SameForm (stated_echo u.payload) u.payload m.payload
      form = same_form (stated_echo u.payload) u.payload m.payload typed.0

      number : number_of m.header.message_type ≡ u.header.message_type
      number = ap (λ (h : Header K). number_of h.message_type) typed.1 ∙ back u.header.message_type fits

      flags : m.header.flags ≡ u.header.flags
      flags = ap (λ (h : Header K). h.flags) typed.1

      answers : is_answer u.payload ≡ is_answer m.payload
      answers = same_answers (stated_echo u.payload) u.payload m.payload form

      pub single_same : (numbered : Bool) → is_single same numbered (Ok u) ≡ is_single number_of numbered (Ok m)
      single_same numbered = rw (number, flags, answers) refl

      pub ends_same : (needs numbered single : Bool)
          → ends_at same needs numbered single (Ok u) ≡ ends_at number_of needs numbered single (Ok m)
      ends_same needs numbered single = rw (number, flags, answers) refl

      message_item : (needs numbered single : Bool) → IsTypedItem type_of view size read
          (item_of same needs numbered single (Ok u)) (item_of number_of needs numbered single (Ok m))
      message_item needs numbered single = rw (ends_same needs numbered single)
          (by (ends_at number_of needs numbered single (Ok m)))
        where
          by : (b : Bool) → IsTypedItem type_of view size read (if b then last_item needs single (Ok u) else Ok u)
              (if b then last_item needs single (Ok m) else Ok m)
          by true = last-typed needs single u m typed u.payload m.payload refl typed.2 form
          by false = typed

    -- ---- how the answer stands by it

    error_alike : (e : RouterError ℕ (List ℕ)) (f : RouterError K P) → IsTypedError type_of view size read e f
        → error_verdict e ≡ error_verdict f
    error_alike (router.Nlmsgerr a) (router.Nlmsgerr b) is =
        ap (λ (x : ℤ). stands.Failed x) (failure_error a (failure_stating a.nlmsg.header.len view b) is.0)
    error_alike (router.Nlmsgerr a) f is = absurd is
    error_alike (router.BadSeqOrPid u) (router.BadSeqOrPid m) is = refl
    error_alike (router.BadSeqOrPid u) f is = absurd is
    error_alike (router.Capped a) f is = rw is refl
    error_alike (router.Msg text) f is = rw is refl
    error_alike (router.Io kind) f is = rw is refl
    error_alike (router.De e) f is = rw is refl
    error_alike (router.Socket e) f is = rw is refl
    error_alike router.NoAck f is = rw is refl
    error_alike router.UnexpectedAck f is = rw is refl
    error_alike router.ClosedChannel f is = rw is refl
    error_alike (router.SeqInUse n) f is = rw is refl
    error_alike router.Memory f is = rw is refl

    -- both have the same marks, and the answer stands the same
    record Alike (x : Item ℕ (List ℕ)) (y : Item K P) : Type 0 where
      pub flagged : (flag : ℕ) → is_flagged flag x ≡ is_flagged flag y
      pub last : last_verdict x ≡ last_verdict y

    alike : (x : Item ℕ (List ℕ)) (y : Item K P) → IsTypedItem type_of view size read x y → Alike x y
    alike (Ok u) (Ok m) is = record {
      flagged = λ flag. sym (ap (λ (h : Header K). bit_and h.flags.0 flag == flag) is.1);
      last = ap code_verdict (same_code (stated_echo u.payload) u.payload m.payload
          (same_form (stated_echo u.payload) u.payload m.payload is.0));
    }
    alike (Err e) (Err f) is = record { flagged = λ flag. refl; last = error_alike e f is }
    alike (Ok u) (Err f) is = absurd is
    alike (Err e) (Ok m) is = absurd is

    verdict_same : (v : Verdict) (ended : Bool) (x : Item ℕ (List ℕ)) (y : Item K P)
        → IsTypedItem type_of view size read x y → verdict_with v ended x ≡ verdict_with v ended y
    verdict_same v ended x y is = sym (first_with v ended x)
        ∙ (let a = alike x y is in rw (a.flagged 16, a.last) (first_with v ended y))

    heard_same : (ended : Bool) (k : Heading) (x : Item ℕ (List ℕ)) (y : Item K P) (h : Heard)
        → IsTypedItem type_of view size read x y → heard_after ended k x h ≡ heard_after ended k y h
    heard_same ended k x y h is = rw (verdict_same h.verdict ended x y is, (alike x y is).flagged 32) refl

    -- ---- one delivery

    module _ (needs numbered single : Bool) where
      pub delivery_item : (d : Delivery) (x : Item K P) → HasType d → IsReading type_of view size read d x
          → IsReadable d x → IsTypedItem type_of view size read (item_of same needs numbered single (untyped d))
          (item_of number_of needs numbered single x)
      delivery_item (delivery.Message u) (Ok m) fits is ok = message_item u m is fits needs numbered single
      delivery_item (delivery.Message u) (Err e) fits is ok = absurd ok
      delivery_item (delivery.Stray u) (Err (router.BadSeqOrPid m)) fits is ok = is
      delivery_item (delivery.Stray u) x fits is ok = absurd ok
      delivery_item (delivery.Fault e) x fits is ok = rw is refl

      pub delivery_handle : (d : Delivery) (x : Item K P) → HasType d → IsReading type_of view size read d x
          → IsReadable d x → (is_single same numbered (untyped d) ≡ is_single number_of numbered x)
          × (ends_at same needs numbered single (untyped d) ≡ ends_at number_of needs numbered single x)
      delivery_handle (delivery.Message u) (Ok m) fits is ok =
          (single_same u m is fits numbered, ends_same u m is fits needs numbered single)
      delivery_handle (delivery.Message u) (Err e) fits is ok = absurd ok
      delivery_handle (delivery.Stray u) (Err (router.BadSeqOrPid m)) fits is ok = (refl, refl)
      delivery_handle (delivery.Stray u) x fits is ok = absurd ok
      delivery_handle (delivery.Fault e) x fits is ok = rw is (refl, refl)

      pub delivery_heard : (d : Delivery) (x : Item K P) (h : Heard) → HasType d
          → IsReading type_of view size read d x → IsReadable d x
          → heard_with same needs numbered single d (untyped d) h ≡ heard_with number_of needs numbered single d x h
      delivery_heard d x h fits is ok =
          let given : Item K P = item_of number_of needs numbered single x in
          heard_same (ends_at same needs numbered single (untyped d)) (heading_of d)
          (item_of same needs numbered single (untyped d)) given h (delivery_item d x fits is ok)
          ∙ ap (λ (b : Bool). heard_after b (heading_of d) given h) (delivery_handle d x fits is ok).1

    -- ---- a lent message

    pub lent_owned : (m : Lent ℕ) (u : Nlmsghdr ℕ (List ℕ)) (x : Nlmsghdr K P) → Lends m u
        → u.header.message_type < 256 ^ 2 → IsTyped type_of view size read u x
        → as_owned type_of number_of read (typed_header type_of m.0, m.1)
        ≡ Ok (typed_header type_of u.header, payload_stating (stated_echo u.payload) view x.payload)
    lent_owned m u x lends fits typed =
        let it = one m u lends in
        let small : m.0.message_type < 256 ^ 2 = subst (λ (h : Header ℕ). h.message_type < 256 ^ 2) (sym it.header) fits in
        let read_as = payload_in-typed type_of read m.0.message_type m.0.flags m.1 u.payload it.payload ∙ typed.0 in
        rw (back m.0.message_type small, read_as)
        (ap (λ (h : Header ℕ). Ok (typed_header type_of h, payload_stating (stated_echo u.payload) view x.payload))
        it.header)
