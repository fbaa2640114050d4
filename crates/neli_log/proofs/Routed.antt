-- The deliveries of a datagram with their routes, and those that have a receiver.
use Rattle.std.proofs.Common.{◌≡◌, ℕ, Bool, true, false, ◌==◌, if◌then◌else◌, List, [], ◌∷◌, ◌++◌, map}
use Rattle.std.proofs.Common.{Option, Some}
use Rattle.std.proofs.Common.{None, refl, sym, ap, ◌∙◌, arith, inl, inr, is_some}
use Rattle.std.proofs.lemmas.List.{append-nil}
use Rattle.neli_wire.specs.declared.errors.DeError.{DeError}
use Rattle.neli_reader.specs.Agreement.{untyped_layout}
use Rattle.neli_reader.specs.Cuts.{Cut, cut_of}
use Rattle.neli_reader.specs.laws.Cuts.{cut_of-end}
use Rattle.neli_reader.specs.laws.Messages.{layout_with-placed}
use Rattle.neli_deliveries.specs.declared.delivery.Delivery.{Delivery}
use Rattle.neli_deliveries.specs.Deliveries.{Untyped, datagram_share, is_reply, message, message_to}
use Rattle.neli_deliveries.specs.Deliveries.{messages_to}
use Rattle.neli_deliveries.specs.Deliveries.{reader_fault, stray}
use Rattle.neli_log.specs.declared.entry.Entry.{Entry}
use Rattle.neli_log.specs.declared.entry.Route.{Route}
use Rattle.neli_log.specs.declared.entry.Route.TheVariants as route
use Rattle.neli_log.specs.Places.{HasReader}
use Rattle.neli_log.specs.Routes.{entry, items_for, leads}
use Rattle.neli_log.specs.Routed.{AreAwaited, datagram_routed, fault_routed, message_routed}
use Rattle.neli_log.proofs.Entries.{items_append, items_first, true_or_false}

-- ---- the deliveries that have a receiver

-- one more that has a receiver
pub awaited_more : {T : Type 0} (P : Option ℕ → Option (List T)) (ds es : List (Entry Delivery)) (d : Entry Delivery)
    → HasReader P d.route → AreAwaited P ds es → AreAwaited P (ds ++ d ∷ []) (es ++ d ∷ [])
awaited_more P [] es d r h = inl (r, [], ap (λ xs. xs ++ d ∷ []) h, refl)
awaited_more P (x ∷ xs) es d r h = elim h [
  | inl it ↦ inl (it.0, it.1 ++ d ∷ [], ap (λ ys. ys ++ d ∷ []) it.2, awaited_more P xs it.1 d r it.3)
  | inr it ↦ inr (it.0, awaited_more P xs es d r it.1)
]

-- one more without a receiver
pub awaited_skipped : {T : Type 0} (P : Option ℕ → Option (List T)) (ds es : List (Entry Delivery)) (d : Entry Delivery)
    → (HasReader P d.route → ⊥) → AreAwaited P ds es → AreAwaited P (ds ++ d ∷ []) es
awaited_skipped P [] es d none h = inr (none, h)
awaited_skipped P (x ∷ xs) es d none h = elim h [
  | inl it ↦ inl (it.0, it.1, it.2, awaited_skipped P xs it.1 d none it.3)
  | inr it ↦ inr (it.0, awaited_skipped P xs es d none it.1)
]

-- it depends only on which lists are open
pub awaited_same : {T U : Type 0} (P : Option ℕ → Option (List T)) (P' : Option ℕ → Option (List U))
    → ((w : Option ℕ) → is_some (P' w) ≡ is_some (P w)) → (ds es : List (Entry Delivery)) → AreAwaited P ds es
    → AreAwaited P' ds es
awaited_same P P' same [] es h = h
awaited_same P P' same (d ∷ ds) es h = elim h [
  | inl it ↦ inl (there it.0, it.1, it.2, awaited_same P P' same ds it.1 it.3)
  | inr it ↦ inr ((λ r. it.0 (here r)), awaited_same P P' same ds es it.1)
]
  where
    there : {r : Route} → HasReader P r → HasReader P' r
    there r = (r.0, same r.0 ∙ r.1, r.2)

    here : {r : Route} → HasReader P' r → HasReader P r
    here r = (r.0, sym (same r.0) ∙ r.1, r.2)

-- each opened list has its items of all of them
pub awaited_items : {T : Type 0} (P : Option ℕ → Option (List T)) (w : Option ℕ) → is_some (P w) ≡ true
    → (ds es : List (Entry Delivery)) → AreAwaited P ds es → items_for w es ≡ items_for w ds
awaited_items P w opened [] es h = ap (items_for w) h
awaited_items P w opened (d ∷ ds) es h = elim h [
  | inl it ↦ ap (items_for w) it.2 ∙ items_first w d it.1
      ∙ ap (λ xs. items_for w (d ∷ []) ++ xs) (awaited_items P w opened ds it.1 it.3) ∙ sym (items_first w d ds)
  | inr it ↦ awaited_items P w opened ds es it.1
      ∙ ap (λ xs. xs ++ items_for w ds) (sym (unread it.0)) ∙ sym (items_first w d ds)
]
  where
    unread : (HasReader P d.route → ⊥) → items_for w (d ∷ []) ≡ []
    unread none = elim (true_or_false (leads w d.route)) [
      | inl it ↦ absurd (none (w, opened, it))
      | inr it ↦ rw it refl
    ]

-- ---- the deliveries of a datagram

-- it depends only on which numbers are open, however that is stated
pub routed_same : (port : ℕ) (o o' : ℕ → Bool) → ((q : ℕ) → o q ≡ o' q) → (groups : List ℕ) (cut : Cut Untyped)
    → datagram_routed port o groups cut ≡ datagram_routed port o' groups cut
routed_same port o o' same groups cut = ap (λ ds. ds ++ fault_routed cut.1) (each groups cut.0)
  where
    each : (groups : List ℕ) (ms : List Untyped)
        → map (message_routed port o groups) ms ≡ map (message_routed port o' groups) ms
    each groups [] = refl
    each [] (m ∷ ms) = rw (same m.0.sequence_number, each [] ms) refl
    each (g ∷ gs) (m ∷ ms) = rw (each (g ∷ gs) ms) refl

-- an empty datagram has none
pub routed_nothing : (port : ℕ) (o : ℕ → Bool) (groups : List ℕ)
    → datagram_routed port o groups (cut_of untyped_layout []) ≡ []
routed_nothing port o groups = rw (cut_of-end untyped_layout (layout_with-placed (λ n. n) _) (omega arith)) refl

module _ (port : ℕ) (o : ℕ → Bool) where
  messages_none : (ms : List Untyped) → items_for None (map (message_routed port o []) ms) ≡ []
  messages_none [] = refl
  messages_none (m ∷ ms) = items_first None (message_routed port o [] m) (map (message_routed port o []) ms)
      ∙ ap (λ xs. xs ++ items_for None (map (message_routed port o []) ms)) (one (is_reply port o m) m)
      ∙ messages_none ms
    where
      one : (b : Bool) (m : Untyped) → items_for None
          ((if b then entry (message m) (route.Number m.0.sequence_number) else entry (stray m) route.Numbers) ∷ [])
          ≡ []
      one true m = refl
      one false m = refl

  messages_number : (q : ℕ) (ms : List Untyped)
      → items_for (Some q) (map (message_routed port o []) ms) ≡ messages_to port o q ms
  messages_number q [] = refl
  messages_number q (m ∷ ms) = items_first (Some q) (message_routed port o [] m) (map (message_routed port o []) ms)
      ∙ ap (λ xs. xs ++ items_for (Some q) (map (message_routed port o []) ms)) (one (is_reply port o m) m)
      ∙ ap (λ xs. message_to port o q m ++ xs) (messages_number q ms)
    where
      one : (b : Bool) (m : Untyped) → items_for (Some q)
          ((if b then entry (message m) (route.Number m.0.sequence_number) else entry (stray m) route.Numbers) ∷ [])
          ≡ (if b then (if m.0.sequence_number == q then message m ∷ [] else []) else stray m ∷ [])
      one true m = refl
      one false m = refl

  messages_multicast : (g : ℕ) (gs : List ℕ) (ms : List Untyped)
      → items_for None (map (message_routed port o (g ∷ gs)) ms) ≡ map message ms
  messages_multicast g gs [] = refl
  messages_multicast g gs (m ∷ ms) = ap (λ xs. message m ∷ xs) (messages_multicast g gs ms)

  messages_elsewhere : (q g : ℕ) (gs : List ℕ) (ms : List Untyped)
      → items_for (Some q) (map (message_routed port o (g ∷ gs)) ms) ≡ []
  messages_elsewhere q g gs [] = refl
  messages_elsewhere q g gs (m ∷ ms) = messages_elsewhere q g gs ms

  fault_none : (f : Option DeError) → items_for None (fault_routed f) ≡ []
  fault_none None = refl
  fault_none (Some e) = refl

  fault_number : (q : ℕ) (f : Option DeError) → items_for (Some q) (fault_routed f) ≡ reader_fault f
  fault_number q None = refl
  fault_number q (Some e) = refl

  -- the deliveries of them for a list are its share of the datagram
  pub items_routed : (w : Option ℕ) (groups : List ℕ) (cut : Cut Untyped)
      → items_for w (datagram_routed port o groups cut) ≡ datagram_share port o w cut groups
  items_routed None [] cut = items_append None (map (message_routed port o []) cut.0) (fault_routed cut.1)
      ∙ ap (λ xs. xs ++ items_for None (fault_routed cut.1)) (messages_none cut.0) ∙ fault_none cut.1
  items_routed None (g ∷ gs) cut = items_append None (map (message_routed port o (g ∷ gs)) cut.0) (fault_routed cut.1)
      ∙ ap (λ xs. items_for None (map (message_routed port o (g ∷ gs)) cut.0) ++ xs) (fault_none cut.1)
      ∙ append-nil _ ∙ messages_multicast g gs cut.0
  items_routed (Some q) [] cut = items_append (Some q) (map (message_routed port o []) cut.0) (fault_routed cut.1)
      ∙ ap (λ xs. xs ++ items_for (Some q) (fault_routed cut.1)) (messages_number q cut.0)
      ∙ ap (λ xs. messages_to port o q cut.0 ++ xs) (fault_number q cut.1)
  items_routed (Some q) (g ∷ gs) cut =
      items_append (Some q) (map (message_routed port o (g ∷ gs)) cut.0) (fault_routed cut.1)
      ∙ ap (λ xs. xs ++ items_for (Some q) (fault_routed cut.1)) (messages_elsewhere q g gs cut.0)
      ∙ fault_number q cut.1
