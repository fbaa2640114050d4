-- The steps of a session, with their outcomes.
use Rattle.std.proofs.Common.{ℕ, zero, suc, ◌≡◌, ◌≢◌, ◌+◌, ◌%◌, ◌^◌, Bool, true, false, ◌||◌, List, [], ◌∷◌, ◌++◌}
use Rattle.std.proofs.Common.{length, drop, Option, Some, None, Result, Ok, Err, refl, sym, ap, subst, ◌∙◌, inl, inr}
use Rattle.std.proofs.Common.{arith}
use Rattle.std.specs.Prelude.{nat_lt, if◌then◌else◌}
use Rattle.std.specs.List.{slice_get}
use Rattle.std.specs.Option.{is_some, option_map}
use Rattle.std.proofs.Math.ListN.{set, length-set}
use Rattle.std.proofs.lemmas.Option.{slice_get_past, slice_get_within}
use Rattle.neli_wire.specs.declared.errors.DeError.{DeError}
use Rattle.neli_wire.specs.Writing.{Wire}
use Rattle.neli_consts.specs.declared.nlm_f.NlmF.{NlmF}
use Rattle.neli_reader.specs.NlPayload.{NlPayload}
use Rattle.neli_reader.specs.RouterError.{RouterError}
use Rattle.neli_reader.specs.RouterError.TheVariants as router
use Rattle.neli_deliveries.specs.declared.delivery.Delivery.{Delivery}
use Rattle.neli_deliveries.specs.Readings.{IsReading, Item}
use Rattle.neli_router.specs.declared.handle.HandleState.{HandleState}
use Rattle.neli_router.specs.declared.reply.Reply.{Reply}
use Rattle.neli_router.specs.declared.reply.Reply.TheVariants as reply
use Rattle.neli_router.specs.Rule.{ends_at, has_number, is_single, item_of, last_place, single_place}
use Rattle.neli_router.specs.Sends.{RefusesSend, asks, frame_or_refusal}
use Rattle.neli_runs.specs.declared.command.Command.{Command}
use Rattle.neli_runs.specs.declared.command.Command.TheVariants as command
use Rattle.neli_runs.specs.declared.command.Outcome.{Outcome}
use Rattle.neli_runs.specs.declared.command.Outcome.TheVariants as outcome
use Rattle.neli_runs.specs.History.{History, is_handle_open, is_open, is_sent, items_of, needs_of, next_number}
use Rattle.neli_runs.specs.History.{list_of_handle}
use Rattle.neli_runs.specs.Outcomes.{IsNextAnswer, IsSending, is_numbered, outcome_of}
use Rattle.neli_runs.specs.laws.Deliveries.{delivered, deliveries-delivered}
use Rattle.neli_runs.specs.laws.Kept.{Agrees, StepKeeps, Handles, Holds, IsKept, IsSlot, Pending, StepIsRight}
use Rattle.neli_runs.proofs.Lists.{list_or, none_of, set_again, set_at, set_other, set_set}
use Rattle.neli_runs.proofs.Readings.{drop_none, length_push, next_end, next_item, next_waits, push_at, push_other}
use Rattle.neli_runs.proofs.Steps.{agrees_close, agrees_close_none, agrees_handed, agrees_pending, agrees_read}
use Rattle.neli_runs.proofs.Steps.{agrees_read_end, agrees_read_none, agrees_read_waits, agrees_sent, agrees_unsent}
use Rattle.neli_runs.proofs.Steps.{handed_by, hands_over, open_test}
use Rattle.neli_router.specs.laws.Places.{true_or_false}

-- a refusal of a request that is not for memory is its outcome
refused-is : {T P : Type 0} (result : Result (List ℕ) (RouterError T P)) (takes : Type 0) (e : RouterError T P)
    → e ≢ router.Memory → RefusesSend result takes e → result ≡ Err e
refused-is result takes (router.Msg t) n r = r
refused-is result takes (router.Io k) n r = r
refused-is result takes (router.De d) n r = r
refused-is result takes (router.Socket s) n r = r
refused-is result takes (router.Nlmsgerr a) n r = r
refused-is result takes (router.Capped a) n r = r
refused-is result takes (router.BadSeqOrPid m) n r = r
refused-is result takes router.NoAck n r = r
refused-is result takes router.UnexpectedAck n r = r
refused-is result takes router.ClosedChannel n r = r
refused-is result takes (router.SeqInUse q) n r = r
refused-is result takes router.Memory n r = absurd (n refl)

-- each sent request has a number that is not in use
pub sent-free : {A E : Type 0} (in_use : Bool) (e : E) (later : Result A E) (x : A)
    → (if in_use then Err e else later) ≡ Ok x → in_use ≡ false
sent-free true e later x is = absurd cc
sent-free false e later x is = refl

item_same : {K P : Type 0} (number : K → ℕ) (needs needs' numbered numbered' after after' : Bool) (item : Item K P)
    → needs ≡ needs' → numbered ≡ numbered' → after ≡ after'
    → reply.Item (item_of number needs numbered after item) ≡ reply.Item (item_of number needs' numbered' after' item)
item_same number needs needs' numbered numbered' after after' item a b c = rw (a, b, c) refl

module _ {ST SP K P V : Type 0} (type_of : ℕ → K) (number : K → ℕ) (view : P → V) (size : P → ℕ) (read : List ℕ
    → Result V DeError) (number_of : ST → ℕ) (wire : SP → Wire) (wire_size : SP → ℕ) where
  -- ---- commands that read nothing

  pub goes_handed : (port next : ℕ) (pending pending' : Pending) (handles : Handles) (c : Command ST SP)
      → hands_over c ≡ true
      → ((w : Option ℕ) → pending' w ≡ option_map (λ ds. ds ++ handed_by port (λ q. is_some (pending (Some q))) c w)
      (pending w)) → StepKeeps type_of number view size read
      (StepIsRight type_of number view size read number_of wire wire_size port) port next pending handles next
      pending' handles c outcome.Done
  goes_handed port next pending pending' handles (command.Datagram b g) is grown h a = (
    (tt, refl),
    agrees_handed type_of number view size read port next (length handles) pending pending'
        (λ k. slice_get handles k) h (command.Datagram b g) is a grown,
  )
  goes_handed port next pending pending' handles (command.Fault e) is grown h a = (
    (tt, refl),
    agrees_handed type_of number view size read port next (length handles) pending pending'
        (λ k. slice_get handles k) h (command.Fault e) is a grown,
  )
  goes_handed port next pending pending' handles (command.SetNextSeq n) is grown h a = absurd cc
  goes_handed port next pending pending' handles (command.Send t f p) is grown h a = absurd cc
  goes_handed port next pending pending' handles (command.Read k) is grown h a = absurd cc
  goes_handed port next pending pending' handles (command.Close k) is grown h a = absurd cc

  -- ---- requests

  module _ (port next : ℕ) (t : ST) (f : NlmF) (p : NlPayload ST SP) (pending : Pending) (handles : Handles)
      (h : History ST SP K P) (a : Holds type_of number view size read port next pending handles h) where
    in_use-is : is_some (pending (Some next)) ≡ is_open (next_number h) h
    in_use-is = open_test type_of number view size read port next (length handles) pending
        (λ k. slice_get handles k) h a next ∙ ap (λ n. is_open n h) a.next_is

    sent-is : frame_or_refusal number_of wire wire_size port next (is_some (pending (Some next))) t f p
        ≡ frame_or_refusal number_of wire wire_size port (next_number h) (is_open (next_number h) h) t f p
    sent-is = rw (in_use-is) (ap (λ n. frame_or_refusal number_of wire wire_size port n
        (is_open (next_number h) h) t f p) a.next_is)

  pub goes_unsent : (port next next' : ℕ) (t : ST) (f : NlmF) (p : NlPayload ST SP) (pending pending' : Pending)
      (handles : Handles) (takes : Type 0) (e : RouterError ST SP)
      → e ≢ router.Memory → RefusesSend (frame_or_refusal number_of wire wire_size port next
      (is_some (pending (Some next))) t f p) takes e
      → next' ≡ next → ((w : Option ℕ) → pending' w ≡ pending w)
      → StepKeeps type_of number view size read (StepIsRight type_of number view size read number_of wire wire_size
      port) port next pending handles next' pending' handles (command.Send t f p) (outcome.NotSent e)
  goes_unsent port next next' t f p pending pending' handles takes e other refused next_is same h a = (
    (sym (sent-is port next t f p pending handles h a) ∙ refused-is _ takes e other refused, tt),
    rw next_is (agrees_unsent type_of number view size read port next (length handles) t f p
        (outcome.NotSent e) pending' (λ k. slice_get handles k) h refl (λ k. refl)
        (agrees_pending type_of number view size read port next (length handles) pending pending'
        (λ k. slice_get handles k) h same a)),
  )

  pub goes_sent : (port next next' : ℕ) (t : ST) (f : NlmF) (p : NlPayload ST SP) (o : Outcome ST SP K P)
      (bytes : List ℕ) (pending pending' : Pending) (handles : Handles) (x : HandleState)
      → is_sent o ≡ true → ((h : History ST SP K P) (k : ℕ) → items_of k ((command.Send t f p, o) ∷ h) ≡ items_of k h)
      → ((result : Result (List ℕ) (RouterError ST SP)) → result ≡ Ok bytes → IsSending result o)
      → frame_or_refusal number_of wire wire_size port next (is_some (pending (Some next))) t f p ≡ Ok bytes
      → is_some (pending (Some next)) ≡ false
      → next' ≡ (next + 1) % 2 ^ 32 → pending' (Some next) ≡ Some []
      → ((w : Option ℕ) → w ≢ Some next → pending' w ≡ pending w)
      → x ≡ asks next f
      → StepKeeps type_of number view size read (StepIsRight type_of number view size read number_of wire wire_size
      port) port next pending handles next' pending' (handles ++ Some x ∷ []) (command.Send t f p) o
  goes_sent port next next' t f p o bytes pending pending' handles x is_sent no_item says is unused next_is opened
      others x_is h a = (
        (says _ (sym (sent-is port next t f p pending handles h a) ∙ is), tt),
        agrees_sent type_of number view size read port next next' (length handles)
            (length (handles ++ Some x ∷ [])) t f p o pending pending' (λ k. slice_get handles k)
            (λ k. slice_get (handles ++ Some x ∷ []) k) h x
            is_sent (no_item h) a (none_of (pending (Some next)) unused) next_is
            (length_push handles (Some x)) opened others (slice_get_past handles (length handles) (omega arith))
            (push_at handles (Some x)) (push_other handles (Some x)) x_is,
      )

  -- ---- places without a handle

  dead_at : (port k : ℕ) (pending : Pending) (h : History ST SP K P) (s : Option (Option HandleState))
      → IsSlot type_of number view size read port pending k h s → ((x : HandleState) → s ≢ Some (Some x))
      → is_handle_open k h ≡ false
  dead_at port k pending h None x gone = rw x.later refl
  dead_at port k pending h (Some None) x gone = x
  dead_at port k pending h (Some (Some handle)) x gone = absurd (gone handle refl)

  pub goes_read_none : (port next k : ℕ) (pending : Pending) (handles : Handles)
      → ((x : HandleState) → slice_get handles k ≢ Some (Some x))
      → StepKeeps type_of number view size read (StepIsRight type_of number view size read number_of wire wire_size
      port) port next pending handles next pending handles (command.Read k) outcome.NoHandle
  goes_read_none port next k pending handles gone h a = (
    (tt, rw (dead_at port k pending h (slice_get handles k) (a.each k) gone) refl),
    agrees_read_none type_of number view size read port next (length handles) k pending
        (λ k. slice_get handles k) h a,
  )

  pub goes_close_none : (port next k : ℕ) (pending : Pending) (handles : Handles)
      → ((x : HandleState) → slice_get handles k ≢ Some (Some x))
      → StepKeeps type_of number view size read (StepIsRight type_of number view size read number_of wire wire_size
      port) port next pending handles next pending handles (command.Close k) outcome.NoHandle
  goes_close_none port next k pending handles gone h a = (
    (tt, rw (dead_at port k pending h (slice_get handles k) (a.each k) gone) refl),
    agrees_close_none type_of number view size read port next (length handles) k pending
        (λ k. slice_get handles k) h a,
  )

  -- ---- closes

  kept_at : (port k : ℕ) (pending : Pending) (h : History ST SP K P) (s : Option (Option HandleState)) (x : HandleState)
      → s ≡ Some (Some x) → IsSlot type_of number view size read port pending k h s
      → (readings : List (Item K P)) × IsKept type_of number view size read port pending k x h readings
  kept_at port k pending h s x e slot = rw e at slot

  pub goes_close : (port next k : ℕ) (pending pending' : Pending) (handles : Handles) (x : HandleState)
      → slice_get handles k ≡ Some (Some x)
      → pending' x.number ≡ None → ((w : Option ℕ) → w ≢ x.number → pending' w ≡ pending w)
      → StepKeeps type_of number view size read (StepIsRight type_of number view size read number_of wire wire_size
      port) port next pending handles next pending' (set handles k None) (command.Close k) outcome.Done
  goes_close port next k pending pending' handles x at_k gone others h a =
      let kept = kept_at port k pending h (slice_get handles k) x at_k (a.each k) in (
        (tt, rw kept.1.live refl),
        subst (λ n. Agrees type_of number view size read port next n pending' (λ j. slice_get (set handles k None) j)
            ((command.Close k, outcome.Done) ∷ h)) (sym (length-set handles k None))
            (agrees_close type_of number view size read port next (length handles) k pending pending'
            (λ j. slice_get handles j) (λ j. slice_get (set handles k None) j) h a kept.1.live
            (rw kept.1.number at gone) (λ w o. others w (λ e. o (e ∙ kept.1.number)))
            (set_at handles None k (slice_get_within handles k (Some x) at_k)) (set_other handles None k)),
      )

  -- ---- reads

  numbered_same : (k : ℕ) (h : History ST SP K P) → has_number (list_of_handle k h) ≡ is_numbered k
  numbered_same zero h = refl
  numbered_same (suc k) h = refl

  module _ (port next next' k : ℕ) (pending pending' : Pending) (handles : Handles) (x x' : HandleState) (r : Reply K P)
      (at_k : slice_get handles k ≡ Some (Some x)) (next_is : next' ≡ next)
      (ended : x.ended ≡ true → (r ≡ reply.End) × (x' ≡ x) × (pending' ≡ pending))
      (waits : x.ended ≡ false → pending x.number ≡ Some [] → (r ≡ reply.Waits) × (x' ≡ x) × (pending' ≡ pending))
      (gives : x.ended ≡ false → (d : Delivery) (ds : List Delivery) → pending x.number ≡ Some (d ∷ ds) →
      (item : Item K P) × IsReading type_of view size read d item
      × (r ≡ reply.Item (item_of number x.needs_ack (has_number x.number) x.single_given item))
      × (pending' x.number ≡ Some ds)
      × (x' ≡ record x {
        single_given = x.single_given || is_single number (has_number x.number) item;
        ended = ends_at number x.needs_ack (has_number x.number) x.single_given item;
      }))
      (others : (w : Option ℕ) → w ≢ x.number → pending' w ≡ pending w)
      (h : History ST SP K P) (a : Holds type_of number view size read port next pending handles h) where
    abbrev Gone : Outcome ST SP K P → Type 0
    Gone o = StepIsRight type_of number view size read number_of wire wire_size port h (command.Read k) o
        × Holds type_of number view size read port next' pending' (set handles k (Some x')) ((command.Read k, o) ∷ h)

    read_of : (readings : List (Item K P)) × IsKept type_of number view size read port pending k x h readings
    read_of = kept_at port k pending h (slice_get handles k) x at_k (a.each k)

    abbrev Next : Reply K P → Type 0
    Next q = IsNextAnswer type_of number view size read (needs_of k h) (is_numbered k) (delivered port k h)
        (items_of k h) q

    read_says : (q : Reply K P) → Next q → StepIsRight type_of number view size read number_of wire wire_size port h
        (command.Read k) (outcome_of q)
    read_says q is = (tt, rw (read_of.1.live, deliveries-delivered port k h) (q, is, refl))

    read_set : set handles k (Some x) ≡ handles
    read_set = set_again handles (Some x) k at_k

    read_over : x.ended ≡ true → Gone (outcome_of r)
    read_over over =
        let t = ended over in
        rw (next_is, t.0, t.1, t.2, read_set) (
          read_says reply.End (next_end type_of number view size read (needs_of k h) (is_numbered k)
              (delivered port k h) (items_of k h) read_of.0 read_of.1.are_read read_of.1.items read_of.1.count
              (sym read_of.1.ended ∙ over)),
          agrees_read_end type_of number view size read port next (length handles) k pending
              (λ k. slice_get handles k) h a,
        )

    read_none : x.ended ≡ false → drop (length read_of.0) (delivered port k h) ≡ [] → Gone (outcome_of r)
    read_none still none =
        let t = waits still (ap pending read_of.1.number ∙ (read_of.1.left ∙ ap Some none)) in
        rw (next_is, t.0, t.1, t.2, read_set) (
          read_says reply.Waits (next_waits type_of number view size read (needs_of k h) (is_numbered k)
              (delivered port k h) (items_of k h) read_of.0 read_of.1.are_read read_of.1.items read_of.1.count
              (sym read_of.1.ended ∙ still) (drop_none (delivered port k h) (length read_of.0) none read_of.1.within)),
          agrees_read_waits type_of number view size read port next (length handles) k pending
              (λ k. slice_get handles k) h a,
        )

    read_number : has_number x.number ≡ is_numbered k
    read_number = ap has_number read_of.1.number ∙ numbered_same k h

    read_one : x.ended ≡ false → (d : Delivery) (ds : List Delivery)
        → drop (length read_of.0) (delivered port k h) ≡ d ∷ ds → Gone (outcome_of r)
    read_one still d ds some =
        let first : pending (list_of_handle k h) ≡ Some (d ∷ ds) = read_of.1.left ∙ ap Some some in
        let t = gives still d ds (ap pending read_of.1.number ∙ first) in
        let still_so : nat_lt (last_place number (needs_of k h) (is_numbered k) read_of.0) (length read_of.0) ≡ false =
        sym read_of.1.ended ∙ still in
        let item : r ≡ reply.Item (item_of number (needs_of k h) (is_numbered k)
        (nat_lt (single_place number (is_numbered k) read_of.0) (length read_of.0)) t.0) = t.2
        ∙ item_same number x.needs_ack (needs_of k h) (has_number x.number) (is_numbered k) x.single_given
        (nat_lt (single_place number (is_numbered k) read_of.0)
        (length read_of.0)) t.0 read_of.1.needs read_number read_of.1.given in
        rw (next_is, item, length-set handles k (Some x')) (
          read_says _ (next_item type_of number view size read (needs_of k h) (is_numbered k) (delivered port k h)
              (items_of k h) read_of.0 read_of.1.are_read read_of.1.items read_of.1.count d ds t.0 still_so some t.1),
          agrees_read type_of number view size read port next (length handles) k pending pending'
              (λ k. slice_get handles k) (λ j. slice_get
              (set handles k (Some x')) j) h x x' read_of.0 d ds t.0 a at_k read_of.1 still first t.1
              (rw read_of.1.number at t.3) (λ w n. others w (λ e. n (e ∙ read_of.1.number)))
              (set_at handles (Some x') k (slice_get_within handles k (Some x) at_k)) (set_other handles (Some x') k)
              (rw read_number at t.4),
        )

    pub goes_read_by : Gone (outcome_of r)
    goes_read_by = elim (true_or_false x.ended) [
      | inl over ↦ read_over over
      | inr still ↦ elim (list_or (drop (length read_of.0) (delivered port k h)))
          [ inl none ↦ read_none still none | inr some ↦ read_one still some.0 some.1 some.2 ]
    ]

  -- ---- the same with handles as the history gives them

  pub goes_close_none_at : (port next k : ℕ) (pending : Pending) (handles handles' : Handles) → handles' ≡ handles
      → ((x : HandleState) → slice_get handles k ≢ Some (Some x))
      → StepKeeps type_of number view size read (StepIsRight type_of number view size read number_of wire wire_size
      port) port next pending handles next pending handles' (command.Close k) outcome.NoHandle
  goes_close_none_at port next k pending handles handles' same gone =
      rw same (goes_close_none port next k pending handles gone)

  pub goes_read_none_at : (port next k : ℕ) (pending : Pending) (handles handles' : Handles) → handles' ≡ handles
      → ((x : HandleState) → slice_get handles k ≢ Some (Some x))
      → StepKeeps type_of number view size read (StepIsRight type_of number view size read number_of wire wire_size
      port) port next pending handles next pending handles' (command.Read k) outcome.NoHandle
  goes_read_none_at port next k pending handles handles' same gone =
      rw same (goes_read_none port next k pending handles gone)

  pub goes_close_at : (port next next' k : ℕ) (pending pending' : Pending) (handles handles' : Handles)
      (x : HandleState) → slice_get handles k ≡ Some (Some x) → handles' ≡ set handles k None → next' ≡ next
      → pending' x.number ≡ None → ((w : Option ℕ) → w ≢ x.number → pending' w ≡ pending w)
      → StepKeeps type_of number view size read (StepIsRight type_of number view size read number_of wire wire_size
      port) port next pending handles next' pending' handles' (command.Close k) outcome.Done
  goes_close_at port next next' k pending pending' handles handles' x at_k left next_is gone others =
      rw (left, next_is) (goes_close port next k pending pending' handles x at_k gone others)

  pub goes_read_at : (port next next' k : ℕ) (pending pending' : Pending) (handles taken put : Handles)
      (x x' : HandleState) (r : Reply K P) (o : Outcome ST SP K P)
      → slice_get handles k ≡ Some (Some x) → taken ≡ set handles k None → put ≡ set taken k (Some x')
      → o ≡ outcome_of r → next' ≡ next
      → (x.ended ≡ true → (r ≡ reply.End) × (x' ≡ x) × (pending' ≡ pending))
      → (x.ended ≡ false → pending x.number ≡ Some [] → (r ≡ reply.Waits) × (x' ≡ x) × (pending' ≡ pending))
      → (x.ended ≡ false → (d : Delivery) (ds : List Delivery) → pending x.number ≡ Some (d ∷ ds) →
      (item : Item K P) × IsReading type_of view size read d item
      × (r ≡ reply.Item (item_of number x.needs_ack (has_number x.number) x.single_given item))
      × (pending' x.number ≡ Some ds)
      × (x' ≡ record x {
        single_given = x.single_given || is_single number (has_number x.number) item;
        ended = ends_at number x.needs_ack (has_number x.number) x.single_given item;
      }))
      → ((w : Option ℕ) → w ≢ x.number → pending' w ≡ pending w)
      → StepKeeps type_of number view size read (StepIsRight type_of number view size read number_of wire wire_size
      port) port next pending handles next' pending' put (command.Read k) o
  goes_read_at port next next' k pending pending' handles taken put x x' r o at_k took puts told next_is ended waits
      gives others h a =
      rw (puts, took, set_set handles None (Some x') k, told)
      (goes_read_by port next next' k pending pending' handles x x' r at_k next_is ended waits gives others h a)
