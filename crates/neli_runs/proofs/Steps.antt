-- The session's invariant over a history, one command further.
use Rattle.std.proofs.Common.{ℕ, zero, suc, ◌≡◌, ◌≢◌, ◌+◌, ◌%◌, ◌^◌, ◌≤◌, Bool, true, false, ◌&&◌, ◌||◌, List, []}
use Rattle.std.proofs.Common.{◌∷◌, ◌++◌, length, drop, Option, Some, None, Result, refl, sym, ap, ◌∙◌, inl, inr, ◌⊎◌}
use Rattle.std.proofs.Common.{arith}
use Rattle.std.specs.Prelude.{nat_lt, nat_le, ◌==◌, if◌then◌else◌}
use Rattle.std.specs.Option.{is_some, option_map}
use Rattle.std.proofs.lemmas.Grind.{common_steps}
use Rattle.std.proofs.lemmas.Bool.Decides.{nat_tests}
use Rattle.neli_wire.specs.declared.errors.DeError.{DeError}
use Rattle.neli_consts.specs.declared.nlm_f.NlmF.{NlmF}
use Rattle.neli_reader.specs.Agreement.{untyped_layout}
use Rattle.neli_reader.specs.Cuts.{cut_of}
use Rattle.neli_reader.specs.NlPayload.{NlPayload}
use Rattle.neli_deliveries.specs.declared.delivery.Delivery.{Delivery}
use Rattle.neli_deliveries.specs.Deliveries.{fault_share, datagram_share}
use Rattle.neli_deliveries.specs.Readings.{IsReading, Item}
use Rattle.neli_router.specs.declared.handle.HandleState.{HandleState}
use Rattle.neli_router.specs.declared.reply.Reply.TheVariants as reply
use Rattle.neli_router.specs.Rule.{answer, ends_at, is_single, item_of, last_place, needs_ack, single_place}
use Rattle.neli_router.specs.Sends.{asks}
use Rattle.neli_runs.specs.declared.command.Command.{Command}
use Rattle.neli_runs.specs.declared.command.Command.TheVariants as command
use Rattle.neli_runs.specs.declared.command.Outcome.{Outcome}
use Rattle.neli_runs.specs.declared.command.Outcome.TheVariants as outcome
use Rattle.neli_runs.specs.History.{History, any_upto, last_set_number, is_closed, is_handle_open, is_open, is_sent}
use Rattle.neli_runs.specs.History.{items_of, needs_of, next_number, number_of, requests_sent, requests_since_set}
use Rattle.neli_runs.specs.History.{list_of_handle}
use Rattle.neli_runs.specs.Outcomes.{is_numbered}
use Rattle.neli_runs.specs.laws.Deliveries.{delivered}
use Rattle.neli_runs.specs.laws.Kept.{Agrees, IsFresh, IsKept, IsOwned, IsSlot, Pending, multicast}
use Rattle.neli_runs.proofs.Alike.{received_same}
use Rattle.neli_router.specs.laws.Places.{lt_zero}
use Rattle.neli_runs.proofs.Readings.{answer_push, drop_append, drop_rest, drop_within, last_push, length_push}
use Rattle.neli_runs.proofs.Readings.{readings_append, readings_push, single_push, were_grow, were_push}

-- ---- numbers and options

pub false_not_true : (b : Bool) → b ≡ false → b ≡ true → ⊥
false_not_true b p q = cc

eqb_refl : (n : ℕ) → (n == n) ≡ true
eqb_refl n = grind (arith, nat_tests)

eqb_other : (m n : ℕ) → m ≢ n → (m == n) ≡ false
eqb_other m n h = grind (arith, nat_tests)

eqb_same : (m n : ℕ) → (m == n) ≡ true → m ≡ n
eqb_same m n h = grind (arith, nat_tests)

le_true : (m n : ℕ) → nat_le m n ≡ true → m ≤ n
le_true m n h = grind (arith, nat_tests)

true_le : (m n : ℕ) → m ≤ n → nat_le m n ≡ true
true_le m n h = grind (arith, nat_tests)

-- equal or not
same_or : (m n : ℕ) → (m ≡ n) ⊎ (m ≢ n)
same_or m n = elim (m == n) as (λ b. ((m == n) ≡ b) → (m ≡ n)
    ⊎ (m ≢ n)) [
      | true ↦ (λ h. inl (eqb_same m n h))
      | false ↦
          (λ h. inr (λ e. false_not_true (m == n) h (rw e (eqb_refl n))))
    ] refl

and_true_left : (a b : Bool) → (a && b) ≡ true → a ≡ true
and_true_left true b e = refl
and_true_left false b e = cc

and_false : (a : Bool) → (a && false) ≡ false
and_false true = refl
and_false false = refl

or_true : (a : Bool) → (a || true) ≡ true
or_true true = refl
or_true false = refl

not_both : (a b : Bool) → (a ≡ true → b ≡ true → ⊥) → (a && b) ≡ false
not_both true true f = absurd (f refl refl)
not_both true false f = refl
not_both false true f = refl
not_both false false f = refl

next_one : (b s n : ℕ) → n ≡ (b + s) % 2 ^ 32 → (n + 1) % 2 ^ 32 ≡ (b + suc s) % 2 ^ 32
next_one b s n e = omega arith

some_inj : {A : Type 0} (x y : A) → Some x ≡ Some y → x ≡ y
some_inj x y e = cc

some_not_none : {A : Type 0} (o : Option A) (x : A) → o ≡ None → o ≡ Some x → ⊥
some_not_none o x p q = cc

-- ---- a history, one event longer

module _ {ST SP K P : Type 0} where
  -- handle k stands alike in two histories
  pub record IsSame (port k : ℕ) (h h' : History ST SP K P) : Type 0 where
    pub later : nat_le k (requests_sent h') ≡ nat_le k (requests_sent h)
    pub closed : is_closed k h' ≡ is_closed k h
    pub items : items_of k h' ≡ items_of k h
    pub deliveries : delivered port k h' ≡ delivered port k h
    pub needs : needs_of k h' ≡ needs_of k h
    pub list_of_handle : list_of_handle k h' ≡ list_of_handle k h

  pub same_live : (port k : ℕ) (h h' : History ST SP K P) → IsSame port k h h'
      → is_handle_open k h' ≡ is_handle_open k h
  same_live port k h h' s = rw (s.later, s.closed) refl

  live_given : (k : ℕ) (h : History ST SP K P) → is_handle_open k h ≡ true → k ≤ requests_sent h
  live_given k h p = le_true k (requests_sent h) (and_true_left _ _ p)

  -- a command that is not sent changes no handle's owner
  pub whose_unsent : (k : ℕ) (c : Command ST SP) (o : Outcome ST SP K P) (h : History ST SP K P) → is_sent o ≡ false
      → list_of_handle k ((c, o) ∷ h) ≡ list_of_handle k h
  whose_unsent zero c o h e = refl
  whose_unsent (suc k) c o h e = rw e refl

longer : (i : ℕ) (xs ys : List Delivery) → i ≤ length xs → i ≤ length (xs ++ ys)
longer i xs ys h = grind (arith, common_steps)

any_true : (n : ℕ) (p : ℕ → Bool) (k : ℕ) → suc k ≤ n → p (suc k) ≡ true → any_upto n p ≡ true
any_true zero p k le e = absurd (omega arith)
any_true (suc n) p k le e = elim (same_or k n) [
  | inl same ↦ rw (← same, e) refl
  | inr o ↦ rw (any_true n p k (omega arith) e) (or_true (p (suc n)))
]

any_false : (n : ℕ) (p : ℕ → Bool) → ((k : ℕ) → p (suc k) ≡ false) → any_upto n p ≡ false
any_false zero p none = refl
any_false (suc n) p none = rw (none n, any_false n p none) refl

abbrev no_items : {K P : Type 0} → List (Item K P)
no_items = []

-- the deliveries of a datagram or a fault
abbrev pub handed_by : {ST SP : Type 0} → ℕ → (ℕ → Bool) → Command ST SP → Option ℕ → List Delivery
handed_by port test (command.Datagram b groups) w = datagram_share port test w (cut_of untyped_layout b.items) groups
handed_by port test (command.Fault e) w = fault_share w e
handed_by port test (command.SetNextSeq n) w = []
handed_by port test (command.Send t f p) w = []
handed_by port test (command.Read k) w = []
handed_by port test (command.Close k) w = []

abbrev pub hands_over : {ST SP : Type 0} → Command ST SP → Bool
hands_over (command.Datagram b groups) = true
hands_over (command.Fault e) = true
hands_over (command.SetNextSeq n) = false
hands_over (command.Send t f p) = false
hands_over (command.Read k) = false
hands_over (command.Close k) = false

module _ {ST SP K P V : Type 0} (type_of : ℕ → K) (number : K → ℕ) (view : P → V) (size : P → ℕ) (read : List ℕ
    → Result V DeError) where
  -- ---- handles that stand alike

  pub slot_same : (port k : ℕ) (pending pending' : Pending) (h h' : History ST SP K P) → IsSame port k h h'
      → (is_handle_open k h ≡ true → pending' (list_of_handle k h) ≡ pending (list_of_handle k h))
      → (s : Option (Option HandleState))
      → IsSlot type_of number view size read port pending k h s
      → IsSlot type_of number view size read port pending' k h' s
  slot_same port k pending pending' h h' s same None x = record {
    later = s.later ∙ x.later;
    closed = s.closed ∙ x.closed;
    items_none = s.items ∙ x.items_none;
    deliveries_none = s.deliveries ∙ x.deliveries_none;
  }
  slot_same port k pending pending' h h' s same (Some None) x = same_live port k h h' s ∙ x
  slot_same port k pending pending' h h' s same (Some (Some handle)) x = (
    x.0,
    record {
      live = same_live port k h h' s ∙ x.1.live;
      number = x.1.number ∙ sym s.list_of_handle;
      needs = x.1.needs ∙ sym s.needs;
      left = rw (s.list_of_handle, s.deliveries) (same x.1.live ∙ x.1.left);
      within = rw s.deliveries x.1.within;
      are_read = rw s.deliveries x.1.are_read;
      count = rw s.items x.1.count;
      items = rw (s.items, s.needs) x.1.items;
      given = x.1.given;
      ended = rw s.needs x.1.ended;
    },
  )

  -- a command that changes nothing but the next number
  pub agrees_same : (port next next' count : ℕ) (pending : Pending) (slots : ℕ
      → Option (Option HandleState)) (h h' : History ST SP K P)
      → requests_sent h' ≡ requests_sent h → next' ≡ next_number h' → ((k : ℕ) → IsSame port k h h')
      → Agrees type_of number view size read port next count pending slots h
      → Agrees type_of number view size read port next' count pending slots h'
  agrees_same port next next' count pending slots h h' many next_is same a = record {
    next_is = next_is;
    count_is = a.count_is ∙ ap suc (sym many);
    each = λ k. slot_same port k pending pending h h' (same k) (λ _. refl) (slots k) (a.each k);
    owned = λ q ds p. let o = a.owned q ds p in (
      o.0,
      same_live port o.0 h h' (same o.0) ∙ o.1,
      (same o.0).list_of_handle ∙ o.2,
    );
    one = λ j k p q r. a.one j k (sym (same_live port j h h' (same j)) ∙ p) (sym (same_live port k h h' (same k)) ∙ q)
        (sym (same j).list_of_handle ∙ (r ∙ (same k).list_of_handle));
  }

  pub agrees_unsent : (port next count : ℕ) (t : ST) (f : NlmF) (p : NlPayload ST SP) (o : Outcome ST SP K P)
      (pending : Pending) (slots : ℕ → Option (Option HandleState)) (h : History ST SP K P)
      → is_sent o ≡ false → ((k : ℕ) → items_of k ((command.Send t f p, o) ∷ h) ≡ items_of k h)
      → Agrees type_of number view size read port next count pending slots h
      → Agrees type_of number view size read port next count pending slots ((command.Send t f p, o) ∷ h)
  agrees_unsent port next count t f p o pending slots h unsent items a =
      let many : requests_sent ((command.Send t f p, o) ∷ h) ≡ requests_sent h = rw unsent refl in
      agrees_same port next next count pending slots h _ many (a.next_is ∙ rw unsent refl)
      (λ k. record {
        later = ap (nat_le k) many;
        closed = refl;
        items = items k;
        deliveries = refl;
        needs = rw unsent refl;
        list_of_handle = whose_unsent k (command.Send t f p) o h unsent;
      }) a

  -- a read that returns no item, or a close of no handle
  pub agrees_idle : (port next count : ℕ) (c : Command ST SP) (o : Outcome ST SP K P) (pending : Pending) (slots : ℕ
      → Option (Option HandleState)) (h : History ST SP K P)
      → requests_sent ((c, o) ∷ h) ≡ requests_sent h → next_number ((c, o) ∷ h) ≡ next_number h
      → ((k : ℕ) → IsSame port k h ((c, o) ∷ h))
      → Agrees type_of number view size read port next count pending slots h
      → Agrees type_of number view size read port next count pending slots ((c, o) ∷ h)
  agrees_idle port next count c o pending slots h many number_is same a =
      agrees_same port next next count pending slots h ((c, o) ∷ h) many (a.next_is ∙ sym number_is) same a

  pub agrees_read_end : (port next count i : ℕ) (pending : Pending) (slots : ℕ
      → Option (Option HandleState)) (h : History ST SP K P)
      → Agrees type_of number view size read port next count pending slots h
      → Agrees type_of number view size read port next count pending slots ((command.Read i, outcome.End) ∷ h)
  agrees_read_end port next count i pending slots h a =
      agrees_idle port next count (command.Read i) outcome.End pending slots h refl refl
      (λ k. record {
        later = refl;
        closed = refl;
        items = refl;
        deliveries = refl;
        needs = refl;
        list_of_handle = whose_unsent k (command.Read i) outcome.End h refl;
      }) a

  pub agrees_read_waits : (port next count i : ℕ) (pending : Pending) (slots : ℕ
      → Option (Option HandleState)) (h : History ST SP K P)
      → Agrees type_of number view size read port next count pending slots h
      → Agrees type_of number view size read port next count pending slots ((command.Read i, outcome.Waits) ∷ h)
  agrees_read_waits port next count i pending slots h a =
      agrees_idle port next count (command.Read i) outcome.Waits pending slots h refl refl
      (λ k. record {
        later = refl;
        closed = refl;
        items = refl;
        deliveries = refl;
        needs = refl;
        list_of_handle = whose_unsent k (command.Read i) outcome.Waits h refl;
      }) a

  pub agrees_read_none : (port next count i : ℕ) (pending : Pending) (slots : ℕ
      → Option (Option HandleState)) (h : History ST SP K P)
      → Agrees type_of number view size read port next count pending slots h
      → Agrees type_of number view size read port next count pending slots ((command.Read i, outcome.NoHandle) ∷ h)
  agrees_read_none port next count i pending slots h a =
      agrees_idle port next count (command.Read i) outcome.NoHandle pending slots h refl refl
      (λ k. record {
        later = refl;
        closed = refl;
        items = refl;
        deliveries = refl;
        needs = refl;
        list_of_handle = whose_unsent k (command.Read i) outcome.NoHandle h refl;
      }) a

  pub agrees_close_none : (port next count i : ℕ) (pending : Pending) (slots : ℕ
      → Option (Option HandleState)) (h : History ST SP K P)
      → Agrees type_of number view size read port next count pending slots h
      → Agrees type_of number view size read port next count pending slots ((command.Close i, outcome.NoHandle) ∷ h)
  agrees_close_none port next count i pending slots h a =
      agrees_idle port next count (command.Close i) outcome.NoHandle pending slots h refl refl
      (λ k. record {
        later = refl;
        closed = rw (and_false (i == k)) refl;
        items = refl;
        deliveries = refl;
        needs = refl;
        list_of_handle = whose_unsent k (command.Close i) outcome.NoHandle h refl;
      }) a

  -- the pending deliveries of an open handle
  kept_of : (port k : ℕ) (pending : Pending) (h : History ST SP K P) (s : Option (Option HandleState))
      → IsSlot type_of number view size read port pending k h s → is_handle_open k h ≡ true
      → (x : HandleState) × (readings : List (Item K P)) × (s ≡ Some (Some x))
      × IsKept type_of number view size read port pending k x h readings
  kept_of port k pending h None x p = absurd (false_not_true (is_handle_open k h) (rw x.later refl) p)
  kept_of port k pending h (Some None) x p = absurd (false_not_true (is_handle_open k h) x p)
  kept_of port k pending h (Some (Some handle)) x p = (handle, x.0, refl, x.1)

  -- ---- a request is sent

  module _ (port next next' count count' : ℕ) (t : ST) (f : NlmF) (p : NlPayload ST SP) (o : Outcome ST SP K P)
      (pending pending' : Pending) (slots slots' : ℕ → Option (Option HandleState)) (h : History ST SP K P)
      (x : HandleState)
      (sent : is_sent o ≡ true) (no_item : (k : ℕ) → items_of k ((command.Send t f p, o) ∷ h) ≡ items_of k h)
      (a : Agrees type_of number view size read port next count pending slots h)
      (free : pending (Some next) ≡ None) (next_is : next' ≡ (next + 1) % 2 ^ 32) (count_is : count' ≡ suc count)
      (opened : pending' (Some next) ≡ Some []) (others : (w : Option ℕ) → w ≢ Some next → pending' w ≡ pending w)
      (past : slots count ≡ None) (new : slots' count ≡ Some (Some x)) (old : (k : ℕ) → k ≢ count → slots' k ≡ slots k)
      (x_is : x ≡ asks next f) where
    abbrev after : History ST SP K P
    after = (command.Send t f p, o) ∷ h

    sent_sends : requests_sent after ≡ suc (requests_sent h)
    sent_sends = rw sent refl

    sent_later : (k : ℕ) → k ≢ suc (requests_sent h) → nat_le k (suc (requests_sent h)) ≡ nat_le k (requests_sent h)
    sent_later k other = grind (arith, nat_tests)

    sent_same : (k : ℕ) → k ≢ suc (requests_sent h) → IsSame port k h after
    sent_same k other = record {
      later = ap (nat_le k) sent_sends ∙ sent_later k other;
      closed = refl;
      items = no_item k;
      deliveries = refl;
      needs = rw (sent, eqb_other k (suc (requests_sent h)) other) refl;
      list_of_handle = elim k as (λ k. k ≢ suc (requests_sent h)
          → list_of_handle k after ≡ list_of_handle k h) [
            | zero ↦ (λ _. refl)
            | suc k ↦
                (λ o. rw (sent, eqb_other (suc k) (suc (requests_sent h)) o) refl)
          ] other;
    }

    sent_fresh : IsFresh port (suc (requests_sent h)) h
    sent_fresh = let e : slots (suc (requests_sent h)) ≡ None = ap slots (sym a.count_is) ∙ past in
        rw e at (a.each (suc (requests_sent h)))

    sent_whose : list_of_handle (suc (requests_sent h)) after ≡ Some next
    sent_whose = rw (sent, eqb_refl (suc (requests_sent h))) (ap Some (sym a.next_is))

    sent_live : is_handle_open (suc (requests_sent h)) after ≡ true
    sent_live = rw (
      sent_sends,
      true_le (suc (requests_sent h)) (suc (requests_sent h)) (omega arith),
      sent_fresh.closed,
    ) refl

    sent_needs : needs_of (suc (requests_sent h)) after ≡ needs_ack f
    sent_needs = rw (sent, eqb_refl (suc (requests_sent h))) refl

    sent_items : items_of (suc (requests_sent h)) after ≡ []
    sent_items = no_item (suc (requests_sent h)) ∙ sent_fresh.items_none

    -- an open handle has another number
    sent_apart : (k : ℕ) → is_handle_open k h ≡ true → list_of_handle k h ≢ Some next
    sent_apart k live e =
        let kept = kept_of port k pending h (slots k) (a.each k) live in
        some_not_none (pending (Some next)) _ free (ap pending (sym e) ∙ kept.3.left)

    sent_not_new : (k : ℕ) → is_handle_open k h ≡ true → k ≢ suc (requests_sent h)
    sent_not_new k live e = let le : k ≤ requests_sent h = live_given k h live in absurd (omega arith)

    sent_new : IsSlot type_of number view size read port pending' (suc (requests_sent h)) after
        (Some (Some (asks next f)))
    sent_new = (
      [],
      record {
        live = sent_live;
        number = sym sent_whose;
        needs = sym sent_needs;
        left = rw (sent_whose, sent_fresh.deliveries_none) opened;
        within = omega arith;
        are_read = tt;
        count = rw sent_items refl;
        items = λ i item at. let none = rw sent_items at at in cc;
        given = sym (lt_zero 0);
        ended = sym (lt_zero (last_place number (needs_of (suc (requests_sent h)) after)
            (is_numbered (suc (requests_sent h))) (no_items {P = P})));
      },
    )

    sent_each : (k : ℕ) → IsSlot type_of number view size read port pending' k after (slots' k)
    sent_each k = elim (same_or k (suc (requests_sent h))) [
      | inl e ↦ rw e (let s : slots' (suc (requests_sent h)) ≡ Some (Some x) = ap slots' (sym a.count_is) ∙ new in
          rw (s, x_is) sent_new)
      | inr o ↦ rw (old k (λ e. o (e ∙ a.count_is))) (slot_same port k pending pending' h after (sent_same k o)
          (λ live. others _ (sent_apart k live)) (slots k) (a.each k))
    ]

    sent_live_old : (k : ℕ) → k ≢ suc (requests_sent h) → is_handle_open k after ≡ true → is_handle_open k h ≡ true
    sent_live_old k o p = sym (same_live port k h after (sent_same k o)) ∙ p

    sent_owned : (q : ℕ) (ds : List Delivery) → pending' (Some q) ≡ Some ds → IsOwned q after
    sent_owned q ds p = elim (same_or q next) [
      | inl e ↦ (suc (requests_sent h), sent_live, rw e sent_whose)
      | inr o ↦ let w = a.owned q ds (sym (others (Some q) (λ e. o (some_inj q next e))) ∙ p) in (
        w.0,
        same_live port w.0 h after (sent_same w.0 (sent_not_new w.0 w.1)) ∙ w.1,
        (sent_same w.0 (sent_not_new w.0 w.1)).list_of_handle ∙ w.2,
      )
    ]

    sent_one : (j k : ℕ) → is_handle_open j after ≡ true → is_handle_open k after ≡ true
        → list_of_handle j after ≡ list_of_handle k after → j ≡ k
    sent_one j k p q r = elim (same_or j (suc (requests_sent h))) [
      | inl ej ↦ elim (same_or k (suc (requests_sent h))) [
        | inl ek ↦ ej ∙ sym ek
        | inr ok ↦ absurd (sent_apart k (sent_live_old k ok q) (sym (sent_same k ok).list_of_handle
            ∙ (sym r ∙ (ap (λ i. list_of_handle i after) ej ∙ sent_whose))))
      ]
      | inr oj ↦ elim (same_or k (suc (requests_sent h))) [
        | inl ek ↦ absurd (sent_apart j (sent_live_old j oj p) (sym (sent_same j oj).list_of_handle
            ∙ (r ∙ (ap (λ i. list_of_handle i after) ek ∙ sent_whose))))
        | inr ok ↦ a.one j k (sent_live_old j oj p) (sent_live_old k ok q) (sym (sent_same j oj).list_of_handle
            ∙ (r ∙ (sent_same k ok).list_of_handle))
      ]
    ]

    sent_next : next_number after ≡ (last_set_number h + suc (requests_since_set h)) % 2 ^ 32
    sent_next = rw sent refl

    pub agrees_sent : Agrees type_of number view size read port next' count' pending' slots' after
    agrees_sent = record {
      next_is = next_is ∙ next_one (last_set_number h) (requests_since_set h) next a.next_is ∙ sym sent_next;
      count_is = count_is ∙ ap suc a.count_is ∙ sym (ap suc sent_sends);
      each = sent_each;
      owned = sent_owned;
      one = sent_one;
    }

  -- ---- an item is read

  module _ (port next count k : ℕ) (pending pending' : Pending) (slots slots' : ℕ
      → Option (Option HandleState)) (h : History ST SP K P) (x x' : HandleState) (readings : List (Item K P))
      (d : Delivery) (ds : List Delivery) (item : Item K P)
      (a : Agrees type_of number view size read port next count pending slots h)
      (before : slots k ≡ Some (Some x)) (kept : IsKept type_of number view size read port pending k x h readings)
      (still : x.ended ≡ false)
      (first : pending (list_of_handle k h) ≡ Some (d ∷ ds)) (is : IsReading type_of view size read d item)
      (taken : pending' (list_of_handle k h) ≡ Some ds) (others : (w : Option ℕ) → w ≢ list_of_handle k h
      → pending' w ≡ pending w)
      (new : slots' k ≡ Some (Some x')) (old : (j : ℕ) → j ≢ k → slots' j ≡ slots j)
      (x_is : x' ≡ record {
        number = x.number;
        needs_ack = x.needs_ack;
        single_given = x.single_given || is_single number (is_numbered k) item;
        ended = ends_at number x.needs_ack (is_numbered k) x.single_given item;
      }) where
    -- the item returned
    abbrev given_item : Item K P
    given_item = item_of number (needs_of k h) (is_numbered k)
        (nat_lt (single_place number (is_numbered k) readings) (length readings)) item

    abbrev read_after : History ST SP K P
    read_after = (command.Read k, outcome.Item given_item) ∷ h

    read_whose : (j : ℕ) → list_of_handle j read_after ≡ list_of_handle j h
    read_whose j = whose_unsent j (command.Read k) (outcome.Item given_item) h refl

    read_same : (j : ℕ) → j ≢ k → IsSame port j h read_after
    read_same j other = record {
      later = refl;
      closed = refl;
      deliveries = refl;
      needs = refl;
      items = rw (eqb_other k j (λ e. other (sym e))) refl;
      list_of_handle = read_whose j;
    }

    read_left : drop (length readings) (delivered port k h) ≡ d ∷ ds
    read_left = some_inj _ _ (sym kept.left ∙ first)

    read_still : nat_lt (last_place number (needs_of k h) (is_numbered k) readings) (length readings) ≡ false
    read_still = sym kept.ended ∙ still

    read_items : items_of k read_after ≡ items_of k h ++ given_item ∷ []
    read_items = rw (eqb_refl k) refl

    read_answer : answer number (needs_of k h) (is_numbered k) (readings ++ item ∷ []) (length (items_of k h))
        ≡ reply.Item given_item
    read_answer = rw kept.count (answer_push number (needs_of k h) (is_numbered k) readings item read_still)

    read_kept : IsKept type_of number view size read port pending' k x' read_after (readings ++ item ∷ [])
    read_kept = rw x_is (record {
      live = kept.live;
      number = kept.number ∙ sym (read_whose k);
      needs = kept.needs;
      left = rw (read_whose k, length_push readings item) (taken
          ∙ ap Some (sym (drop_rest (delivered port k h) (length readings) d ds read_left)));
      within = rw (length_push readings item) (drop_within (delivered port k h) (length readings) d ds read_left);
      are_read = readings_push type_of view size read (delivered port k h) readings d ds item kept.are_read read_left
          is;
      count = rw (read_items, length_push readings item) (length_push (items_of k h) given_item ∙ ap suc kept.count);
      items = rw read_items (were_push number (needs_of k h) (is_numbered k) (readings ++ item ∷ [])
          (items_of k h) given_item (were_grow number (needs_of k h) (is_numbered k) readings (item ∷ [])
          (items_of k h) kept.items) read_answer);
      given = rw (length_push readings item, kept.given)
          (sym (single_push number (needs_of k h) (is_numbered k) readings item));
      ended = rw (length_push readings item, kept.given, kept.needs)
          (sym (last_push number (needs_of k h) (is_numbered k) readings item read_still));
    })

    read_apart : (j : ℕ) → j ≢ k → is_handle_open j h ≡ true → list_of_handle j h ≢ list_of_handle k h
    read_apart j other live e = other (a.one j k live kept.live e)

    read_each : (j : ℕ) → IsSlot type_of number view size read port pending' j read_after (slots' j)
    read_each j = elim (same_or j k) [
      | inl e ↦ rw (e, new) (readings ++ item ∷ [], read_kept)
      | inr o ↦ rw (old j o) (slot_same port j pending pending' h read_after (read_same j o)
          (λ live. others _ (read_apart j o live)) (slots j) (a.each j))
    ]

    read_owned : (q : ℕ) (es : List Delivery) → (s : Option (List Delivery)) → pending (Some q) ≡ s
        → pending' (Some q) ≡ Some es → IsOwned q read_after
    read_owned q es (Some fs) p r = let o = a.owned q fs p in (o.0, o.1, read_whose o.0 ∙ o.2)
    read_owned q es None p r =
        let apart : Some q ≢ list_of_handle k h = λ e. some_not_none
        (pending (list_of_handle k h)) _ (ap pending (sym e) ∙ p) first in
        absurd (some_not_none (pending' (Some q)) _ (others (Some q) apart ∙ p) r)

    pub agrees_read : Agrees type_of number view size read port next count pending' slots' read_after
    agrees_read = record {
      next_is = a.next_is;
      count_is = a.count_is;
      each = read_each;
      owned = λ q es p. read_owned q es (pending (Some q)) refl p;
      one = λ i j p q r. a.one i j p q (sym (read_whose i) ∙ (r ∙ read_whose j));
    }

  -- ---- a handle is closed

  module _ (port next count k : ℕ) (pending pending' : Pending) (slots slots' : ℕ
      → Option (Option HandleState)) (h : History ST SP K P)
      (a : Agrees type_of number view size read port next count pending slots h) (live : is_handle_open k h ≡ true)
      (gone : pending' (list_of_handle k h) ≡ None) (others : (w : Option ℕ) → w ≢ list_of_handle k h
      → pending' w ≡ pending w)
      (new : slots' k ≡ Some None) (old : (j : ℕ) → j ≢ k → slots' j ≡ slots j) where
    abbrev close_after : History ST SP K P
    close_after = (command.Close k, outcome.Done) ∷ h

    close_whose : (j : ℕ) → list_of_handle j close_after ≡ list_of_handle j h
    close_whose j = whose_unsent j (command.Close k) outcome.Done h refl

    close_same : (j : ℕ) → j ≢ k → IsSame port j h close_after
    close_same j other = record {
      later = refl;
      items = refl;
      deliveries = refl;
      needs = refl;
      closed = rw (eqb_other k j (λ e. other (sym e))) refl;
      list_of_handle = close_whose j;
    }

    close_dead : is_handle_open k close_after ≡ false
    close_dead = rw (eqb_refl k) (and_false (nat_le k (requests_sent h)))

    close_not : (j : ℕ) → is_handle_open j close_after ≡ true → j ≢ k
    close_not j p e = false_not_true _ close_dead (ap (λ i. is_handle_open i close_after) (sym e) ∙ p)

    close_live : (j : ℕ) → is_handle_open j close_after ≡ true → is_handle_open j h ≡ true
    close_live j p = sym (same_live port j h close_after (close_same j (close_not j p))) ∙ p

    close_each : (j : ℕ) → IsSlot type_of number view size read port pending' j close_after (slots' j)
    close_each j = elim (same_or j k) [
      | inl e ↦ rw (e, new) close_dead
      | inr o ↦ rw (old j o) (slot_same port j pending pending' h close_after (close_same j o)
          (λ alive. others _ (λ e. o (a.one j k alive live e))) (slots j) (a.each j))
    ]

    close_owned : (q : ℕ) (es : List Delivery) → pending' (Some q) ≡ Some es → IsOwned q close_after
    close_owned q es p =
        let apart : Some q ≢ list_of_handle k h = λ e. some_not_none (pending' (list_of_handle k h)) _ gone
        (ap pending' (sym e) ∙ p) in
        let o = a.owned q es (sym (others (Some q) apart) ∙ p) in
        let other : o.0 ≢ k = λ e. apart (sym o.2 ∙ ap (λ i. list_of_handle i h) e) in
        (o.0, same_live port o.0 h close_after (close_same o.0 other) ∙ o.1, close_whose o.0 ∙ o.2)

    pub agrees_close : Agrees type_of number view size read port next count pending' slots' close_after
    agrees_close = record {
      next_is = a.next_is;
      count_is = a.count_is;
      each = close_each;
      owned = close_owned;
      one = λ i j p q r. a.one i j (close_live i p) (close_live j q) (sym (close_whose i) ∙ (r ∙ close_whose j));
    }

  -- ---- which numbers are open

  open_owner : (k q : ℕ) (h : History ST SP K P) → is_handle_open k h ≡ true → list_of_handle k h ≡ Some q
      → is_open q h ≡ true
  open_owner zero q h live e = absurd (some_not_none (list_of_handle zero h) q refl e)
  open_owner (suc k) q h live e = any_true (requests_sent h) (λ k. is_handle_open k h && (number_of k h == q)) k
      (live_given (suc k) h live) (rw (live, some_inj _ _ e, eqb_refl q) refl)

  open_by : (port next count : ℕ) (pending : Pending) (slots : ℕ → Option (Option HandleState)) (h : History ST SP K P)
      → Agrees type_of number view size read port next count pending slots h
      → (q : ℕ) (s : Option (List Delivery)) → pending (Some q) ≡ s → is_some s ≡ is_open q h
  open_by port next count pending slots h a q (Some ds) p =
      let o = a.owned q ds p in sym (open_owner o.0 q h o.1 o.2)
  open_by port next count pending slots h a q None p =
      sym (any_false (requests_sent h) (λ k. is_handle_open k h && (number_of k h == q))
      (λ k. not_both (is_handle_open (suc k) h) (number_of (suc k) h == q) (λ live same.
      let kept = kept_of port (suc k) pending h (slots (suc k)) (a.each (suc k)) live in
      some_not_none (pending (Some q)) _ p (ap (λ i. pending (Some i)) (sym (eqb_same (number_of (suc k) h) q same))
      ∙ kept.3.left))))

  pub open_test : (port next count : ℕ) (pending : Pending) (slots : ℕ
      → Option (Option HandleState)) (h : History ST SP K P)
      → Agrees type_of number view size read port next count pending slots h
      → (q : ℕ) → is_some (pending (Some q)) ≡ is_open q h
  open_test port next count pending slots h a q = open_by port next count pending slots h a q (pending (Some q)) refl

  -- ---- a datagram or a fault of the link: each list gains its share

  module _ (port next count : ℕ) (pending pending' : Pending) (slots : ℕ
      → Option (Option HandleState)) (h h' : History ST SP K P)
      (more : Option ℕ → List Delivery)
      (a : Agrees type_of number view size read port next count pending slots h)
      (grown : (w : Option ℕ) → pending' w ≡ option_map (λ ds. ds ++ more w) (pending w))
      (many : requests_sent h' ≡ requests_sent h) (next_same : next_number h' ≡ next_number h)
      (closed : (k : ℕ) → is_closed k h' ≡ is_closed k h) (items_same : (k : ℕ)
      → items_of k h' ≡ items_of k h) (needs_same : (k : ℕ) → needs_of k h' ≡ needs_of k h) (whose_same : (k : ℕ)
      → list_of_handle k h' ≡ list_of_handle k h)
      (handed : (k : ℕ) → delivered port k h' ≡ (if is_handle_open k h
      then delivered port k h ++ more (list_of_handle k h) else delivered port k h)) where
    more_live : (k : ℕ) → is_handle_open k h' ≡ is_handle_open k h
    more_live k = rw (many, closed k) refl

    more_slot : (k : ℕ) (s : Option (Option HandleState)) → IsSlot type_of number view size read port pending k h s
        → IsSlot type_of number view size read port pending' k h' s
    more_slot k None x = record {
      later = ap (nat_le k) many ∙ x.later;
      closed = closed k ∙ x.closed;
      items_none = items_same k ∙ x.items_none;
      deliveries_none = handed k ∙ (let dead : is_handle_open k h ≡ false = rw x.later refl in
          rw dead x.deliveries_none);
    }
    more_slot k (Some None) x = more_live k ∙ x
    more_slot k (Some (Some handle)) x =
        let all : delivered port k h' ≡ delivered port k h ++ more (list_of_handle k h) =
        handed k ∙ rw x.1.live refl in (
          x.0,
          record {
            live = more_live k ∙ x.1.live;
            number = x.1.number ∙ sym (whose_same k);
            needs = x.1.needs ∙ sym (needs_same k);
            left = rw (
              whose_same k,
              all,
              drop_append (length x.0) (delivered port k h)
                  (more (list_of_handle k h)) x.1.within,
            ) (grown (list_of_handle k h)
                ∙ ap (option_map (λ ds. ds ++ more (list_of_handle k h))) x.1.left);
            within = rw all (longer (length x.0) (delivered port k h) (more (list_of_handle k h)) x.1.within);
            are_read = rw all (readings_append type_of view size read (delivered port k h)
                (more (list_of_handle k h)) x.0 x.1.are_read);
            count = rw (items_same k) x.1.count;
            items = rw (items_same k, needs_same k) x.1.items;
            given = x.1.given;
            ended = rw (needs_same k) x.1.ended;
          },
        )

    more_owned : (q : ℕ) (es : List Delivery) (s : Option (List Delivery)) → pending (Some q) ≡ s
        → pending' (Some q) ≡ Some es → IsOwned q h'
    more_owned q es (Some fs) p r = let o = a.owned q fs p in (o.0, more_live o.0 ∙ o.1, whose_same o.0 ∙ o.2)
    more_owned q es None p r = absurd (some_not_none (pending' (Some q)) _ (grown (Some q)
        ∙ ap (option_map (λ ds. ds ++ more (Some q))) p) r)

    agrees_more : Agrees type_of number view size read port next count pending' slots h'
    agrees_more = record {
      next_is = a.next_is ∙ sym next_same;
      count_is = a.count_is ∙ ap suc (sym many);
      each = λ k. more_slot k (slots k) (a.each k);
      owned = λ q es p. more_owned q es (pending (Some q)) refl p;
      one = λ j k p q r. a.one j k (sym (more_live j) ∙ p) (sym (more_live k) ∙ q) (sym (whose_same j)
          ∙ (r ∙ whose_same k));
    }

  pub agrees_handed : (port next count : ℕ) (pending pending' : Pending) (slots : ℕ
      → Option (Option HandleState)) (h : History ST SP K P) (c : Command ST SP) → hands_over c ≡ true
      → Agrees type_of number view size read port next count pending slots h
      → ((w : Option ℕ) → pending' w ≡ option_map (λ ds. ds ++ handed_by port (λ q. is_some (pending (Some q))) c w)
      (pending w))
      → Agrees type_of number view size read port next count pending' slots ((c, outcome.Done) ∷ h)
  agrees_handed port next count pending pending' slots h (command.Datagram b groups) is a grown =
      agrees_more port next count pending pending' slots h ((command.Datagram b groups, outcome.Done) ∷ h)
      (λ w. datagram_share port (λ q. is_open q h) w (cut_of untyped_layout b.items) groups) a
      (λ w. grown w ∙ ap (λ more. option_map (λ ds. ds ++ more) (pending w))
      (received_same port (λ q. is_some (pending (Some q))) (λ q. is_open q h)
      (open_test port next count pending slots h a) w (cut_of untyped_layout b.items) groups))
      refl refl (λ k. refl) (λ k. refl) (λ k. refl) (λ k. whose_unsent k
      (command.Datagram b groups) outcome.Done h refl)
      (λ k. refl)
  agrees_handed port next count pending pending' slots h (command.Fault e) is a grown =
      agrees_more port next count pending pending' slots h ((command.Fault e, outcome.Done) ∷ h)
      (λ w. fault_share w e) a grown
      refl refl (λ k. refl) (λ k. refl) (λ k. refl) (λ k. whose_unsent k (command.Fault e) outcome.Done h refl)
      (λ k. refl)
  agrees_handed port next count pending pending' slots h (command.SetNextSeq n) is a grown = absurd cc
  agrees_handed port next count pending pending' slots h (command.Send t f p) is a grown = absurd cc
  agrees_handed port next count pending pending' slots h (command.Read k) is a grown = absurd cc
  agrees_handed port next count pending pending' slots h (command.Close k) is a grown = absurd cc

  -- lists that are the same, one by one
  pub agrees_pending : (port next count : ℕ) (pending pending' : Pending) (slots : ℕ
      → Option (Option HandleState)) (h : History ST SP K P)
      → ((w : Option ℕ) → pending' w ≡ pending w) → Agrees type_of number view size read port next count pending slots h
      → Agrees type_of number view size read port next count pending' slots h
  agrees_pending port next count pending pending' slots h same a = record {
    next_is = a.next_is;
    count_is = a.count_is;
    each = λ k. slot_same port k pending pending' h h (record {
      later = refl;
      closed = refl;
      items = refl;
      deliveries = refl;
      needs = refl;
      list_of_handle = refl;
    }) (λ _. same (list_of_handle k h)) (slots k) (a.each k);
    owned = λ q ds p. a.owned q ds (sym (same (Some q)) ∙ p);
    one = a.one;
  }

-- ---- the start

module _ (ST SP : Type 0) {K P V : Type 0} (type_of : ℕ → K) (number : K → ℕ) (view : P → V) (size : P
    → ℕ) (read : List ℕ → Result V DeError) where
  start_kept : (port : ℕ) (pending : Pending) → pending None ≡ Some []
      → IsSlot {ST = ST} {SP = SP} type_of number view size read port pending 0 [] (Some (Some multicast))
  start_kept port pending empty = (
    [],
    record {
      live = refl;
      number = refl;
      needs = refl;
      left = empty;
      within = omega arith;
      are_read = tt;
      count = refl;
      items = λ i item at. cc;
      given = refl;
      ended = refl;
    },
  )

  start_each : (port : ℕ) (pending : Pending) (slots : ℕ → Option (Option HandleState))
      → pending None ≡ Some [] → slots 0 ≡ Some (Some multicast) → ((k : ℕ) → slots (suc k) ≡ None)
      → (k : ℕ) → IsSlot {ST = ST} {SP = SP} type_of number view size read port pending k [] (slots k)
  start_each port pending slots empty first rest zero = rw first (start_kept port pending empty)
  start_each port pending slots empty first rest (suc k) =
      rw (rest k) (record {
        later = grind (arith, nat_tests);
        closed = refl;
        items_none = refl;
        deliveries_none = refl;
      })

  pub agrees_start : (port : ℕ) (pending : Pending) (slots : ℕ → Option (Option HandleState))
      → pending None ≡ Some [] → ((q : ℕ) → pending (Some q) ≡ None) → slots 0 ≡ Some (Some multicast)
      → ((k : ℕ) → slots (suc k) ≡ None)
      → Agrees {ST = ST} {SP = SP} type_of number view size read port 0 1 pending slots []
  agrees_start port pending slots empty numbers first rest = record {
    next_is = refl;
    count_is = refl;
    each = λ k. start_each port pending slots empty first rest k;
    owned = λ q ds p. absurd (some_not_none (pending (Some q)) ds (numbers q) p);
    one = λ j k p q r. let j_none : j ≤ 0 = le_true j 0 (and_true_left _ _ p) in
        let k_none : k ≤ 0 = le_true k 0 (and_true_left _ _ q) in omega arith;
  }
