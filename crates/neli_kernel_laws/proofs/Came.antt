-- The messages that arrived for a handle since its request was sent.
use Rattle.std.proofs.Common.{◌≡◌, ◌<◌, ◌≤◌, ℕ, suc, ◌++◌, All, Bool, true, false, ◌||◌, ◌&&◌, not, List}
use Rattle.std.proofs.Common.{[], ◌∷◌, map, Some, None, Result, refl, sym, ap, subst, ◌∙◌, append_assoc, arith}
use Rattle.std.specs.Prelude.{nat_le, ◌==◌, if◌then◌else◌}
use Rattle.std.specs.List.{filter}
use Rattle.std.proofs.lemmas.Bool.Decides.{nat_tests}
use Rattle.std.proofs.lemmas.List.{append-nil, map-append}
use Rattle.std.proofs.lemmas.List.Elements.{All-head, All-tail}
use Rattle.neli_wire.specs.declared.errors.DeError.{DeError}
use Rattle.neli_consts.specs.declared.nlm_f.NlmF.{NlmF}
use Rattle.neli_reader.specs.Agreement.{untyped_layout}
use Rattle.neli_reader.specs.Cuts.{Cut, cut_of}
use Rattle.neli_reader.specs.NlPayload.{NlPayload}
use Rattle.neli_deliveries.specs.Deliveries.{Untyped, datagram_share, is_reply, message}
use Rattle.neli_deliveries.specs.Deliveries.{messages_to, reader_fault, stray}
use Rattle.neli_deliveries.specs.declared.delivery.Delivery.{Delivery}
use Rattle.neli_deliveries.specs.Readings.{Item}
use Rattle.neli_runs.specs.declared.command.Command.{Command}
use Rattle.neli_runs.specs.declared.command.Command.TheVariants as command
use Rattle.neli_runs.specs.declared.command.Outcome.{Outcome}
use Rattle.neli_runs.specs.declared.command.Outcome.TheVariants as outcome
use Rattle.neli_runs.specs.Deliveries.{deliveries, handed_over}
use Rattle.neli_runs.specs.History.{Event, History, is_closed, is_handle_open, is_open, is_sent}
use Rattle.neli_runs.specs.History.{items_of, needs_of, next_number, number_of, requests_sent}
use Rattle.neli_runs.specs.Outcomes.{IsAnswered, IsNextAnswer, IsReadOf, outcome_of}
use Rattle.neli_runs.specs.Regrouping.{Bytes}
use Rattle.neli_runs.specs.Reply.{Reply}
use Rattle.neli_runs.specs.Rule.{needs_ack}
use Rattle.neli_runs.specs.laws.Deliveries.{deliveries-more}
use Rattle.neli_kernel_laws.specs.Complete.{IsComplete}
use Rattle.neli_kernel_laws.specs.Served.{AllAnswer, Answers, brought, came, handle_after, history_sent}
use Rattle.neli_kernel_laws.specs.Turns.{IsInTurn, IsReadAs}
use Rattle.neli_kernel_laws.proofs.Given.{given-before}

-- ---- a datagram that answers requests

one-own : (answers own : Bool) (u : Untyped) (us : List Untyped) (more : List Delivery) → answers ≡ true
    → more ≡ map message us → (if answers then (if own then message u ∷ [] else []) else stray u ∷ []) ++ more
    ≡ map message (if own then u ∷ us else us)
one-own true true u us more is same = ap (λ (ds : List Delivery). message u ∷ ds) same
one-own true false u us more is same = same
one-own false own u us more is same = cc

own-messages : (port number : ℕ) (is_open : ℕ → Bool) (us : List Untyped) → All (λ u. is_reply port is_open u ≡ true) us
    → messages_to port is_open number us ≡ map message (filter (λ u. u.0.sequence_number == number) us)
own-messages port number is_open [] all = refl
own-messages port number is_open (u ∷ us) all =
    one-own (is_reply port is_open u) (u.0.sequence_number == number) u (filter (λ u. u.0.sequence_number == number) us)
    (messages_to port is_open number us)
    (All-head (λ u. is_reply port is_open u ≡ true) u us all)
    (own-messages port number is_open us (All-tail (λ u. is_reply port is_open u ≡ true) u us all))

own-share : (port number : ℕ) (is_open : ℕ → Bool) (cut : Cut Untyped) → cut.1 ≡ None
    → All (λ u. is_reply port is_open u ≡ true) cut.0 → datagram_share port is_open (Some number) cut []
    ≡ map message (filter (λ u. u.0.sequence_number == number) cut.0)
own-share port number is_open cut whole all =
    ap (λ f. messages_to port is_open number cut.0 ++ reader_fault f) whole
    ∙ append-nil (messages_to port is_open number cut.0) ∙ own-messages port number is_open cut.0 all

-- ---- numbers

later-place : (j n : ℕ) → suc j ≤ n → (suc j == suc n) ≡ false
later-place j n le = grind (arith, nat_tests)

same-place : (n : ℕ) → (n == n) ≡ true
same-place n = grind (arith, nat_tests)

pub is-given : (j n : ℕ) → suc j ≤ n → nat_le (suc j) n ≡ true
is-given j n le = grind (arith, nat_tests)

not-given : (n : ℕ) → nat_le (suc n) n ≡ false
not-given n = grind (arith, nat_tests)

le-self : (n : ℕ) → n ≤ n
le-self n = omega arith

given-later : (sent : Bool) (j n : ℕ) → suc j ≤ n → suc j ≤ (if sent then suc n else n)
given-later true j n le = omega (arith, le)
given-later false j n le = le

not-before : (sent : Bool) (k n : ℕ) → nat_le k (if sent then suc n else n) ≡ false → nat_le k n ≡ false
not-before true k n not = grind (arith, nat_tests)
not-before false k n not = not

pub kept-by : {A : Type 0} (sent same : Bool) (x y : A) → same ≡ false → (if sent && same then x else y) ≡ y
kept-by true true x y is = cc
kept-by true false x y is = refl
kept-by false same x y is = refl

taken-by : {A : Type 0} (same : Bool) (x y : A) → same ≡ true → (if true && same then x else y) ≡ x
taken-by true x y is = refl
taken-by false x y is = cc

pub or-later : (a b : Bool) → (a || b) ≡ false → b ≡ false
or-later true b e = cc
or-later false b e = e

pub open-by : (given closed : Bool) → given ≡ true → closed ≡ false → (given && not closed) ≡ true
open-by true false is not = refl
open-by true true is not = cc
open-by false closed is not = cc

not-open : (given closed : Bool) → given ≡ false → (given && not closed) ≡ false
not-open true closed is = cc
not-open false closed is = refl

-- ---- histories, one event longer

module _ {ST SP RT RP : Type 0} (port : ℕ) where
  -- the facts about a handle that exists: its number, and whether it needs an acknowledgement
  pub record Keeps (j number : ℕ) (needs : Bool) (h : History ST SP RT RP) : Type 0 where
    pub given : suc j ≤ requests_sent h
    pub number_is : number_of (suc j) h ≡ number
    pub needs_is : needs_of (suc j) h ≡ needs

  pub keeps-more : (j number : ℕ) (needs : Bool) (e : Event ST SP RT RP) (h : History ST SP RT RP)
      → Keeps j number needs h → Keeps j number needs (e ∷ h)
  keeps-more j number needs e h k =
      let other = later-place j (requests_sent h) k.given in
      record {
        given = given-later (is_sent e.1) j (requests_sent h) k.given;
        number_is = kept-by (is_sent e.1) (suc j == suc (requests_sent h)) _ (number_of (suc j) h) other ∙ k.number_is;
        needs_is = kept-by (is_sent e.1) (suc j == suc (requests_sent h)) _ (needs_of (suc j) h) other ∙ k.needs_is;
      }

  -- the deliveries of a command to it
  handed : (j number : ℕ) (h : History ST SP RT RP) (c : Command ST SP) → number_of (suc j) h ≡ number
      → Answers port h c → handed_over port (suc j) c h ≡ map message (brought number c)
  handed j number h (command.Datagram b []) is a =
      ap (λ (n : ℕ). datagram_share port (λ q. is_open q h) (Some n) (cut_of untyped_layout b.items) []) is
      ∙ own-share port number (λ q. is_open q h) (cut_of untyped_layout b.items) a.0 (a.1 refl)
  handed j number h (command.Datagram b (g ∷ groups)) is a = ap reader_fault a.0
  handed j number h (command.Fault e) is a = absurd a
  handed j number h (command.SetNextSeq n) is a = refl
  handed j number h (command.Send t f p) is a = refl
  handed j number h (command.Read k) is a = refl
  handed j number h (command.Close k) is a = refl

  handed-open : (k : ℕ) (e : Event ST SP RT RP) (h : History ST SP RT RP) (live : Bool) (ds : List Delivery)
      → is_handle_open k h ≡ live → handed_over port k e.0 h ≡ ds
      → deliveries port k (e ∷ h) ≡ deliveries port k h ++ (if live then ds else [])
  handed-open k e h live ds opened hands =
      deliveries-more port k e h
      ∙ ap (λ (b : Bool). deliveries port k h ++ (if b then handed_over port k e.0 h else [])) opened
      ∙ ap (λ (xs : List Delivery). deliveries port k h ++ (if live then xs else [])) hands

  -- all that arrived after a history in which it exists
  record Came (j number : ℕ) (needs : Bool) (before later : History ST SP RT RP) : Type 0 where
    keeps : Keeps j number needs (later ++ before)
    delivered : deliveries port (suc j) (later ++ before)
        ≡ deliveries port (suc j) before ++ map message (came number later)

  all-came : (j number : ℕ) (needs : Bool) (before later : History ST SP RT RP) → Keeps j number needs before
      → is_closed (suc j) (later ++ before) ≡ false → AllAnswer port later before → Came j number needs before later
  all-came j number needs before [] k closed a = record {
    keeps = k;
    delivered = sym (append-nil (deliveries port (suc j) before));
  }
  all-came j number needs before (e ∷ later) k closed a =
      let still : is_closed (suc j) (later ++ before) ≡ false =
      or-later _ (is_closed (suc j) (later ++ before)) closed in
      let r = all-came j number needs before later k still a.1 in
      let live : is_handle_open (suc j) (later ++ before) ≡ true =
      open-by _ _ (is-given j (requests_sent (later ++ before)) r.keeps.given) still in
      let start : List Delivery = deliveries port (suc j) before in
      record {
        keeps = keeps-more j number needs e (later ++ before) r.keeps;
        delivered = handed-open (suc j) e (later ++ before) true (map message (brought number e.0)) live
            (handed j number (later ++ before) e.0 r.keeps.number_is a.0)
            ∙ ap (λ (ds : List Delivery). ds ++ map message (brought number e.0)) r.delivered
            ∙ append_assoc start (map message (came number later)) (map message (brought number e.0))
            ∙ ap (λ (ds : List Delivery). start ++ ds)
            (sym (map-append message (came number later) (brought number e.0)));
      }

  -- ---- nothing arrived before the request was sent

  fresh-more : (k : ℕ) (e : Event ST SP RT RP) (h : History ST SP RT RP) → nat_le k (requests_sent h) ≡ false
      → deliveries port k (e ∷ h) ≡ deliveries port k h
  fresh-more k e h not =
      handed-open k e h false (handed_over port k e.0 h) (not-open _ (is_closed k h) not) refl
      ∙ append-nil (deliveries port k h)

  fresh : (k : ℕ) (h : History ST SP RT RP) → nat_le k (requests_sent h) ≡ false → deliveries port k h ≡ []
  fresh k [] not = refl
  fresh k (e ∷ h) not =
      let before = not-before (is_sent e.1) k (requests_sent h) not in
      fresh-more k e h before ∙ fresh k h before

  -- ---- a request that was sent

  module _ (t : ST) (flags : NlmF) (p : NlPayload ST SP) (sent : Bytes) (before : History ST SP RT RP) where
    abbrev start : History ST SP RT RP
    start = history_sent before t flags p sent

    pub start-keeps : Keeps (requests_sent before) (next_number before) (needs_ack flags) start
    start-keeps = record {
      given = le-self (suc (requests_sent before));
      number_is = taken-by (suc (requests_sent before) == suc (requests_sent before)) _ _ (same-place
          (suc (requests_sent before)));
      needs_is = taken-by (suc (requests_sent before) == suc (requests_sent before)) _ _ (same-place
          (suc (requests_sent before)));
    }

    start-nothing : deliveries port (handle_after before) start ≡ []
    start-nothing =
        let not = not-given (requests_sent before) in
        fresh-more (handle_after before) (command.Send t flags p, outcome.Sent sent) before not
        ∙ fresh (handle_after before) before not

    since : (later : History ST SP RT RP) → is_closed (handle_after before) (later ++ start) ≡ false
        → AllAnswer port later start → Came (requests_sent before) (next_number before) (needs_ack flags) start later
    since later closed a = all-came (requests_sent before) (next_number before)
        (needs_ack flags) start later start-keeps closed a

    pub came_delivered : (later : History ST SP RT RP) → is_closed (handle_after before) (later ++ start) ≡ false
        → AllAnswer port later start → deliveries port (handle_after before) (later ++ start)
        ≡ map message (came (next_number before) later)
    came_delivered later closed a =
        (since later closed a).delivered ∙ ap (λ (ds : List Delivery). ds ++ map message
        (came (next_number before) later)) start-nothing

    pub came-open : (later : History ST SP RT RP) → is_closed (handle_after before) (later ++ start) ≡ false
        → AllAnswer port later start → is_handle_open (handle_after before) (later ++ start) ≡ true
    came-open later closed a = open-by _ _ (is-given (requests_sent before) (requests_sent (later ++ start))
        (since later closed a).keeps.given) closed

    pub came-needs : (later : History ST SP RT RP) → is_closed (handle_after before) (later ++ start) ≡ false
        → AllAnswer port later start → needs_of (handle_after before) (later ++ start) ≡ needs_ack flags
    came-needs later closed a = (since later closed a).keeps.needs_is

-- ---- and its reads

module _ {ST SP K P V : Type 0} (type_of : ℕ → K) (number_in : K → ℕ) (view : P → V) (size : P → ℕ) (read : List ℕ
    → Result V DeError) (back : (n : ℕ) → n < 65536 → number_in (type_of n) ≡ n) where
  -- a whole answer arrived, and perhaps more after it
  pub read-before : (port : ℕ) (t : ST) (flags : NlmF) (p : NlPayload ST SP) (sent : Bytes)
      (before later : History ST SP K P) (o : Outcome ST SP K P) (us more : List Untyped)
      → is_closed (handle_after before) (later ++ history_sent before t flags p sent) ≡ false
      → AllAnswer port later (history_sent before t flags p sent)
      → came (next_number before) later ≡ us ++ more → IsComplete (needs_ack flags) us
      → IsAnswered type_of number_in view size read port (later ++ history_sent before t flags p sent)
      (command.Read (handle_after before)) o
      → (r : Reply K P) × IsInTurn (IsReadAs type_of view size read) us
      (items_of (handle_after before) (later ++ history_sent before t flags p sent)) r × (o ≡ outcome_of r)
  read-before port t flags p sent before later o us more closed a comes complete is =
      let all : History ST SP K P = later ++ history_sent before t flags p sent in
      let given : List (Item K P) = items_of (handle_after before) all in
      let answered : IsReadOf type_of number_in view size read port all (handle_after before) true o =
      subst (λ (b : Bool). IsReadOf type_of number_in view size read port all (handle_after before) b o)
      (came-open port t flags p sent before later closed a) is in
      let needed = subst (λ (b : Bool). IsNextAnswer type_of number_in view size read b true
      (deliveries port (handle_after before) all) given answered.0)
      (came-needs port t flags p sent before later closed a) answered.1 in
      let next = subst (λ (ds : List Delivery). IsNextAnswer type_of number_in view size read
      (needs_ack flags) true ds given answered.0) (came_delivered port t flags p sent before later closed
      a ∙ ap (map message) comes) needed in (
        answered.0,
        given-before type_of number_in view size read back
            (needs_ack flags) us more given answered.0 complete next,
        answered.2,
      )

  pub read-in-turn : (port : ℕ) (t : ST) (flags : NlmF) (p : NlPayload ST SP) (sent : Bytes)
      (before later : History ST SP K P) (o : Outcome ST SP K P)
      → is_closed (handle_after before) (later ++ history_sent before t flags p sent) ≡ false
      → AllAnswer port later (history_sent before t flags p sent)
      → IsComplete (needs_ack flags) (came (next_number before) later)
      → IsAnswered type_of number_in view size read port (later ++ history_sent before t flags p sent)
      (command.Read (handle_after before)) o
      → (r : Reply K P) × IsInTurn (IsReadAs type_of view size read) (came (next_number before) later)
      (items_of (handle_after before) (later ++ history_sent before t flags p sent)) r × (o ≡ outcome_of r)
  read-in-turn port t flags p sent before later o closed a complete is =
      let us : List Untyped = came (next_number before) later in
      read-before port t flags p sent before later o us [] closed a (sym (append-nil us)) complete is
