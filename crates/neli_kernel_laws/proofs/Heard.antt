-- Datagrams that arrived for groups, and the reads of the handle for multicast.
use Rattle.std.proofs.Common.{◌≡◌, ℕ, suc, ◌++◌, Bool, true, false, List, [], ◌∷◌, map, length}
use Rattle.std.proofs.Common.{None, Result, Ok, Err, refl, sym, ap, subst, ◌∙◌, arith}
use Rattle.std.specs.Prelude.{◌==◌, if◌then◌else◌, nat_le}
use Rattle.std.specs.List.{list_any}
use Rattle.std.proofs.lemmas.Bool.Decides.{nat_tests}
use Rattle.std.proofs.lemmas.List.{append-nil, length-map, map-append}
use Rattle.std.proofs.lemmas.List.Concat.{flat_map-append}
use Rattle.neli_wire.specs.declared.errors.DeError.{DeError}
use Rattle.neli_wire.specs.Writing.{Wire}
use Rattle.neli_consts.specs.declared.nlm_f.NlmF.{NlmF}
use Rattle.neli_reader.specs.Agreement.{untyped_layout}
use Rattle.neli_reader.specs.Cuts.{Cut, cut_of}
use Rattle.neli_reader.specs.Framed.{Nlmsghdr}
use Rattle.neli_reader.specs.NlPayload.{NlPayload}
use Rattle.neli_reader.specs.NlPayload.TheVariants as payload
use Rattle.neli_deliveries.specs.Deliveries.{Untyped, message}
use Rattle.neli_deliveries.specs.declared.delivery.Delivery.{Delivery}
use Rattle.neli_deliveries.specs.Readings.{Item}
use Rattle.neli_runs.specs.declared.command.Command.{Command}
use Rattle.neli_runs.specs.declared.command.Command.TheVariants as command
use Rattle.neli_runs.specs.declared.command.Outcome.{Outcome}
use Rattle.neli_runs.specs.Deliveries.{deliveries, handed_over}
use Rattle.neli_runs.specs.History.{History, asks_ack, is_closed, is_handle_open, is_sent, items_of, needs_of}
use Rattle.neli_runs.specs.History.{requests_sent}
use Rattle.neli_runs.specs.Outcomes.{IsAnswered, IsNextAnswer, IsReadOf, WereAnswers, outcome_of}
use Rattle.neli_runs.specs.Reply.{Reply}
use Rattle.neli_runs.specs.Reply.TheVariants as reply
use Rattle.neli_runs.specs.Rule.{answer, ends_alone, is_answer, is_single, last_item, last_item_of_payload}
use Rattle.neli_runs.specs.laws.Deliveries.{deliveries-more}
use Rattle.neli_kernel.specs.Delivered.{IsReply, reply_kept}
use Rattle.neli_kernel_laws.specs.Notified.{AreNotifications, group_datagrams, messages_cut_of, taken_for_groups}
use Rattle.neli_kernel_laws.specs.Turns.{IsHeardInTurn, IsReadAs, is_err}
use Rattle.neli_kernel_laws.proofs.Came.{kept-by, open-by, or-later}
use Rattle.neli_kernel_laws.proofs.Given.{are-read}
use Rattle.neli_kernel_laws.proofs.Turns.{AreRead, alone-last, item_is, over-suc, over-zero, quiet-suc, quiet-zero}
use Rattle.neli_kernel_laws.proofs.Turns.{suc_is, waits, zero_not_suc}

-- ---- what is delivered to it

zero-le : (n : ℕ) → nat_le 0 n ≡ true
zero-le n = grind (arith, nat_tests)

zero-suc : (n : ℕ) → (0 == suc n) ≡ false
zero-suc n = grind (arith, nat_tests)

module _ {ST SP : Type 0} where
  -- the messages for groups in a command
  abbrev heard_by : Command ST SP → List Untyped
  heard_by c = messages_cut_of (taken_for_groups c)

module _ {ST SP RT RP : Type 0} (port : ℕ) where
  handed-groups : (c : Command ST SP) (h : History ST SP RT RP) → handed_over port 0 c h ≡ map message (heard_by c)
  handed-groups (command.Datagram b []) h = refl
  handed-groups (command.Datagram b (g ∷ groups)) h =
      ap (map message) (sym (append-nil (cut_of untyped_layout b.items).0))
  handed-groups (command.Fault e) h = refl
  handed-groups (command.SetNextSeq n) h = refl
  handed-groups (command.Send t f p) h = refl
  handed-groups (command.Read k) h = refl
  handed-groups (command.Close k) h = refl

  pub groups-open : (h : History ST SP RT RP) → is_closed 0 h ≡ false → is_handle_open 0 h ≡ true
  groups-open h closed = open-by (nat_le 0 (requests_sent h)) (is_closed 0 h) (zero-le (requests_sent h)) closed

  -- it has no request
  pub groups-need : (h : History ST SP RT RP) → needs_of 0 h ≡ false
  groups-need [] = refl
  groups-need (e ∷ h) =
      kept-by (is_sent e.1) (0 == suc (requests_sent h)) (asks_ack e.0) (needs_of 0 h) (zero-suc (requests_sent h))
      ∙ groups-need h

  pub groups_delivered : (h : History ST SP RT RP) → is_closed 0 h ≡ false
      → deliveries port 0 h ≡ map message (messages_cut_of (group_datagrams h))
  groups_delivered [] closed = refl
  groups_delivered (e ∷ h) closed =
      let still : is_closed 0 h ≡ false = or-later _ (is_closed 0 h) closed in
      let before : List Untyped = messages_cut_of (group_datagrams h) in
      deliveries-more port 0 e h
      ∙ ap (λ (b : Bool). deliveries port 0 h ++ (if b then handed_over port 0 e.0 h else [])) (groups-open h still)
      ∙ ap (λ (ds : List Delivery). deliveries port 0 h ++ ds) (handed-groups e.0 h)
      ∙ ap (λ (ds : List Delivery). ds ++ map message (heard_by e.0)) (groups_delivered h still)
      ∙ sym (map-append message before (heard_by e.0))
      ∙ ap (map message) (sym (flat_map-append (λ (d : List ℕ). (cut_of untyped_layout d).0) (group_datagrams h)
      (taken_for_groups e.0)))

-- ---- its reads

-- an error of the other side and an acknowledgement are returned as errors
answer-err : {K P : Type 0} (m : Nlmsghdr K P) (p : NlPayload K P) → is_answer p ≡ true
    → is_err (last_item_of_payload false false m p) ≡ true
answer-err m (payload.Ack e) is = refl
answer-err m (payload.Err e) is = refl
answer-err m (payload.Capped e) is = refl
answer-err m (payload.DumpExtAck e) is = cc
answer-err m (payload.Payload p) is = cc
answer-err m payload.Empty is = cc

-- any other message is returned as it is
other-given : {K P : Type 0} (m : Nlmsghdr K P) (p : NlPayload K P) → is_answer p ≡ false
    → last_item_of_payload false false m p ≡ Ok m
other-given m (payload.Ack e) is = cc
other-given m (payload.Err e) is = cc
other-given m (payload.Capped e) is = cc
other-given m (payload.DumpExtAck e) is = refl
other-given m (payload.Payload p) is = refl
other-given m payload.Empty is = refl

over-err : {K P : Type 0} (x : Item K P) → ends_alone x ≡ true → is_err (last_item false false x) ≡ true
over-err (Ok m) is = answer-err m m.payload is
over-err (Err e) is = refl

quiet-given : {K P : Type 0} (x : Item K P) → ends_alone x ≡ false → last_item false false x ≡ x
quiet-given (Ok m) is = other-given m m.payload is
quiet-given (Err e) is = cc

quiet-ok : {K P : Type 0} (x : Item K P) → ends_alone x ≡ false → is_err x ≡ false
quiet-ok (Ok m) is = refl
quiet-ok (Err e) is = cc

no-single : {K P : Type 0} (number_of : K → ℕ) (x : Item K P) → is_single number_of false x ≡ false
no-single number_of (Ok m) = refl
no-single number_of (Err e) = refl

none-given : {K P : Type 0} (number_of : K → ℕ) (g : Item K P) → answer number_of false false [] 0 ≡ reply.Item g → ⊥
none-given number_of g is = let w : reply.Waits ≡ reply.Item g = sym (waits number_of false false 0) ∙ is in cc

module _ {U K P : Type 0} (number_of : K → ℕ) (IsRead : U → Item K P → Type 0) where
  -- the reply to the next read
  abbrev IsNextHeard : List U → List (Item K P) → Reply K P → Type 0
  IsNextHeard us given r =
      (readings : List (Item K P)) × AreRead IsRead us readings × WereAnswers number_of false false readings given
      × (answer number_of false false readings (length given) ≡ r)
      × (r ≡ reply.Waits → length readings ≡ length us)

  -- the next reply is the one of its turn
  abbrev InHeardTurn : List U → Type 0
  InHeardTurn us = (given : List (Item K P)) (r : Reply K P) → IsNextHeard us given r → IsHeardInTurn IsRead us given r

  heard-end : (us : List U) (given : List (Item K P)) (r : Reply K P) → list_any is_err given ≡ true → r ≡ reply.End
      → IsHeardInTurn IsRead us given r
  heard-end us given r over is = rw over is

  module _ (u : U) (us : List U) (x : Item K P) (xs : List (Item K P)) (read : IsRead u x) (reads : AreRead IsRead us
      xs) where
    -- a message after which reads return others
    quiet-heard : (given : List (Item K P)) (r : Reply K P) → ends_alone x ≡ false → InHeardTurn us
        → WereAnswers number_of false false (x ∷ xs) given
        → answer number_of false false (x ∷ xs) (length given) ≡ r
        → (r ≡ reply.Waits → suc (length xs) ≡ suc (length us)) → IsHeardInTurn IsRead (u ∷ us) given r
    quiet-heard [] r alone rest were is none = (
      x,
      (x, read, sym (quiet-given x alone)),
      sym is ∙ quiet-zero number_of false false x xs alone (no-single number_of x),
    )
    quiet-heard (g ∷ given) r alone rest were is none =
        let same : x ≡ g = item_is _ _ (sym (quiet-zero number_of false false x xs alone (no-single number_of x))
        ∙ were 0 g refl) in
        let later : IsHeardInTurn IsRead us given r = rest given r (
          xs,
          reads,
          λ i item at. sym (quiet-suc number_of false false x xs i alone (no-single number_of x))
              ∙ were (suc i) item at,
          sym (quiet-suc number_of false false x xs (length given) alone (no-single number_of x)) ∙ is,
          λ w. suc_is _ _ (none w),
        ) in
        let fine : is_err g ≡ false = ap is_err (sym same) ∙ quiet-ok x alone in
        rw fine later

    -- one that ends them
    over-heard : (given : List (Item K P)) (r : Reply K P) → ends_alone x ≡ true
        → WereAnswers number_of false false (x ∷ xs) given
        → answer number_of false false (x ∷ xs) (length given) ≡ r → IsHeardInTurn IsRead (u ∷ us) given r
    over-heard [] r alone were is = (
      last_item false false x,
      (x, read, refl),
      sym is ∙ over-zero number_of false false x xs (alone-last number_of false false x xs alone),
    )
    over-heard (g ∷ given) r alone were is =
        let last = alone-last number_of false false x xs alone in
        let same : last_item false false x ≡ g = item_is _ _ (sym (over-zero number_of false false x xs last)
        ∙ were 0 g refl) in
        let err : is_err g ≡ true = ap is_err (sym same) ∙ over-err x alone in
        heard-end (u ∷ us) (g ∷ given) r (rw err refl)
        (sym is ∙ over-suc number_of false false x xs (length given) last)

    either-heard : (b : Bool) → ends_alone x ≡ b → InHeardTurn us → (given : List (Item K P)) (r : Reply K P)
        → WereAnswers number_of false false (x ∷ xs) given
        → answer number_of false false (x ∷ xs) (length given) ≡ r
        → (r ≡ reply.Waits → suc (length xs) ≡ suc (length us)) → IsHeardInTurn IsRead (u ∷ us) given r
    either-heard true alone rest given r were is none = over-heard given r alone were is
    either-heard false alone rest given r were is none = quiet-heard given r alone rest were is none

  heard-nothing : InHeardTurn []
  heard-nothing [] r ([], are, were, is, none) = sym is ∙ waits number_of false false 0
  heard-nothing (g ∷ given) r ([], are, were, is, none) = absurd (none-given number_of g (were 0 g refl))
  heard-nothing given r (x ∷ xs, are, were, is, none) = absurd are

  heard-more : (u : U) (us : List U) → InHeardTurn us → InHeardTurn (u ∷ us)
  heard-more u us rest [] r ([], are, were, is, none) =
      absurd (zero_not_suc (length us) (none (sym is ∙ waits number_of false false 0)))
  heard-more u us rest (g ∷ given) r ([], are, were, is, none) = absurd (none-given number_of g (were 0 g refl))
  heard-more u us rest given r (x ∷ xs, are, were, is, none) =
      either-heard u us x xs are.0 are.1 (ends_alone x) refl rest given r were is none

  pub heard-turn : (us : List U) → InHeardTurn us
  heard-turn [] = heard-nothing
  heard-turn (u ∷ us) = heard-more u us (heard-turn us)

module _ {ST SP K P V : Type 0} (type_of : ℕ → K) (number_of : K → ℕ) (view : P → V) (size : P → ℕ) (read : List ℕ
    → Result V DeError) where
  pub groups-heard : (port : ℕ) (h : History ST SP K P) (us : List Untyped) (o : Outcome ST SP K P)
      → is_closed 0 h ≡ false → messages_cut_of (group_datagrams h) ≡ us
      → IsAnswered type_of number_of view size read port h (command.Read 0) o
      → (r : Reply K P) × IsHeardInTurn (IsReadAs type_of view size read) us (items_of 0 h) r × (o ≡ outcome_of r)
  groups-heard port h us o closed are is =
      let given : List (Item K P) = items_of 0 h in
      let answered : IsReadOf type_of number_of view size read port h 0 true o =
      subst (λ (b : Bool). IsReadOf type_of number_of view size read port h 0 b o) (groups-open port h closed) is in
      let needed = subst (λ (b : Bool). IsNextAnswer type_of number_of view size read b false
      (deliveries port 0 h) given answered.0) (groups-need port h) answered.1 in
      let next = subst (λ (ds : List Delivery). IsNextAnswer type_of number_of view size read false false ds
      given answered.0) (groups_delivered port h closed ∙ ap (map message) are) needed in (
        answered.0,
        heard-turn number_of (IsReadAs type_of view size read) us given answered.0 (
          next.0,
          are-read type_of view size read us next.0 next.1,
          next.2,
          next.3,
          λ w. next.4 w ∙ length-map us message,
        ),
        answered.2,
      )

-- ---- notifications

module _ {T P : Type 0} (number_of : T → ℕ) (wire : P → Wire) (size : P → ℕ) (one : (t : T) (flags : NlmF) (number
    port : ℕ) (body : P) (text bytes : List ℕ) → IsReply number_of wire size t flags number port body text bytes
    → cut_of untyped_layout bytes ≡ (reply_kept (number_of t) flags number port text ∷ [], None)) where
  pub notifications-cut : (ds : List (List ℕ)) (us : List Untyped) → AreNotifications number_of wire size ds us
      → messages_cut_of ds ≡ us
  notifications-cut [] [] are = refl
  notifications-cut [] (u ∷ us) are = absurd are
  notifications-cut (d ∷ ds) [] are = absurd are
  notifications-cut (d ∷ ds) (u ∷ us) are =
      let n = are.0 in
      let cut : (cut_of untyped_layout d).0 ≡ u ∷ [] = ap (λ (c : Cut Untyped). c.0)
      (one n.message_type n.flags n.number n.port n.body n.text d n.is)
      ∙ ap (λ (v : Untyped). v ∷ []) (sym n.kept_is) in
      rw cut (ap (λ (vs : List Untyped). u ∷ vs) (notifications-cut ds us are.1))
