-- Consecutive datagrams deliver the messages of their joined bytes.
use Rattle.std.proofs.Common.{ℕ, ◌≡◌, Bool, true, false, List, [], ◌∷◌, ◌++◌, Option, Some, None, refl, sym, ap}
use Rattle.std.proofs.Common.{◌∙◌, append_assoc, arith}
use Rattle.std.specs.Prelude.{⊤, if◌then◌else◌}
use Rattle.std.proofs.lemmas.List.{append-nil, map-append}
use Rattle.std.proofs.lemmas.List.Concat.{flat_map-append}
use Rattle.neli_wire.specs.declared.errors.DeError.{DeError}
use Rattle.neli_reader.specs.Agreement.{untyped_layout}
use Rattle.neli_reader.specs.Cuts.{Cut, cut_of, messages_before}
use Rattle.neli_reader.specs.laws.Cuts.{cut_of-end, cut_of-join}
use Rattle.neli_reader.specs.laws.Messages.{layout_with-placed}
use Rattle.neli_deliveries.specs.declared.delivery.Delivery.{Delivery}
use Rattle.neli_deliveries.specs.Deliveries.{Untyped, message, message_to, messages_to, reader_fault, datagram_share}
use Rattle.neli_runs.specs.declared.command.Command.{Command}
use Rattle.neli_runs.specs.declared.command.Command.TheVariants as command
use Rattle.neli_runs.specs.declared.command.Outcome.{Outcome}
use Rattle.neli_runs.specs.declared.command.Outcome.TheVariants as outcome
use Rattle.neli_runs.specs.Deliveries.{deliveries}
use Rattle.neli_runs.specs.History.{History, is_handle_open, is_open, items_of, list_of_handle}
use Rattle.neli_runs.specs.Outcomes.{EachAfter}
use Rattle.neli_runs.specs.Regrouping.{AreWholeBeforeLast, Bytes, IsRegrouped, IsWhole, history_with, concatenation}
use Rattle.neli_runs.specs.laws.Deliveries.{deliveries-more}
use Rattle.neli_runs.proofs.Alike.{IsAlike, IsSameFor, alike-after, alike-back, alike-both, alike-self, alike_live}
use Rattle.neli_runs.proofs.Alike.{alike_open, alike_whose, deliveries-after, each-same, received_same}

-- ---- the cut of bytes that are joined

pub untyped-join : (a b : List ℕ) → IsWhole untyped_layout a
    → cut_of untyped_layout (a ++ b) ≡ messages_before (cut_of untyped_layout a).0 (cut_of untyped_layout b)
untyped-join = cut_of-join untyped_layout (layout_with-placed (λ n. n) _) (omega arith)

untyped-end : cut_of untyped_layout [] ≡ ([], None)
untyped-end = cut_of-end untyped_layout (layout_with-placed (λ n. n) _) (omega arith)

-- ---- what a handle gets

module _ (port : ℕ) (test : ℕ → Bool) where
  -- of whole messages and those after them, both
  datagram_share-join : (w : Option ℕ) (groups : List ℕ) (ms : List Untyped) (cut : Cut Untyped)
      → datagram_share port test w (messages_before ms cut) groups
      ≡ datagram_share port test w (ms, None) groups ++ datagram_share port test w cut groups
  datagram_share-join None [] ms cut = refl
  datagram_share-join None (g ∷ groups) ms cut = map-append message ms cut.0
  datagram_share-join (Some q) [] ms cut =
      ap (λ ds. ds ++ reader_fault cut.1) (flat_map-append (message_to port test q) ms cut.0)
      ∙ append_assoc (messages_to port test q ms) (messages_to port test q cut.0) (reader_fault cut.1)
      ∙ ap (λ ds. ds ++ datagram_share port test (Some q) cut []) (sym (append-nil (messages_to port test q ms)))
  datagram_share-join (Some q) (g ∷ groups) ms cut = refl

  datagram_share-nothing : (w : Option ℕ) (groups : List ℕ)
      → datagram_share port test w (cut_of untyped_layout []) groups ≡ []
  datagram_share-nothing w groups = ap (λ cut. datagram_share port test w cut groups) untyped-end ∙ by w groups
    where
      by : (w : Option ℕ) (groups : List ℕ) → datagram_share port test w ([], None) groups ≡ []
      by None [] = refl
      by None (g ∷ groups) = refl
      by (Some q) [] = refl
      by (Some q) (g ∷ groups) = refl

  datagram_share-more : (w : Option ℕ) (groups : List ℕ) (a b : List ℕ) → IsWhole untyped_layout a
      → datagram_share port test w (cut_of untyped_layout a) groups ++ datagram_share port test w
      (cut_of untyped_layout b) groups ≡ datagram_share port test w (cut_of untyped_layout (a ++ b)) groups
  datagram_share-more w groups a b whole =
      let first : cut_of untyped_layout a ≡ ((cut_of untyped_layout a).0, None) =
      ap (λ (g : Option DeError). ((cut_of untyped_layout a).0, g)) whole in
      ap (λ cut. datagram_share port test w cut groups ++ datagram_share port test w
      (cut_of untyped_layout b) groups) first
      ∙ sym (datagram_share-join w groups (cut_of untyped_layout a).0 (cut_of untyped_layout b))
      ∙ ap (λ cut. datagram_share port test w cut groups) (sym (untyped-join a b whole))

either : (b : Bool) (ds : List Delivery) → (if b then ds else ds) ≡ ds
either true ds = refl
either false ds = refl

-- ---- datagrams, one after the other

module _ {ST SP RT RP : Type 0} where
  -- a datagram opens and closes no handle
  alike-datagram : (b : Bytes) (groups : List ℕ) (h : History ST SP RT RP)
      → IsAlike ((command.Datagram b groups, outcome.Done) ∷ h) h
  alike-datagram b groups h = record {
    sent = refl;
    set = refl;
    counted = refl;
    numbers = λ k. refl;
    needs = λ k. refl;
    closed = λ k. refl;
  }

  alike-came : (groups : List ℕ) (bs : List Bytes) (h : History ST SP RT RP) → IsAlike (history_with groups bs h) h
  alike-came groups [] h = alike-self h
  alike-came groups (b ∷ later) h =
      alike-both _ _ _ (alike-came groups later ((command.Datagram b groups, outcome.Done) ∷ h))
      (alike-datagram b groups h)

  -- the deliveries to a handle from bytes that arrive as one datagram
  part_of : ℕ → ℕ → List ℕ → History ST SP RT RP → List ℕ → List Delivery
  part_of port k groups h b = if is_handle_open k h then datagram_share port (λ q. is_open q h) (list_of_handle k h)
      (cut_of untyped_layout b) groups else []

  part-nothing : (port k : ℕ) (groups : List ℕ) (h : History ST SP RT RP) → part_of port k groups h [] ≡ []
  unfolding part_of
  part-nothing port k groups h = rw (datagram_share-nothing port (λ q. is_open q h) (list_of_handle k h) groups)
      (either (is_handle_open k h) [])

  part-same : (port k : ℕ) (groups : List ℕ) (h h' : History ST SP RT RP) (b : List ℕ) → IsAlike h h'
      → part_of port k groups h b ≡ part_of port k groups h' b
  unfolding part_of
  part-same port k groups h h' b a =
      rw (
        alike_live k h h' a,
        alike_whose k h h' a,
        received_same port (λ q. is_open q h) (λ q. is_open q h')
            (λ q. alike_open q h h' a) (list_of_handle k h') (cut_of untyped_layout b) groups,
      ) refl

  part-more : (port k : ℕ) (groups : List ℕ) (h : History ST SP RT RP) (a b : List ℕ) → IsWhole untyped_layout a
      → part_of port k groups h a ++ part_of port k groups h b ≡ part_of port k groups h (a ++ b)
  unfolding part_of
  part-more port k groups h a b whole = elim (is_handle_open k h) as (λ live.
      (if live then datagram_share port (λ q. is_open q h) (list_of_handle k h) (cut_of untyped_layout a) groups
      else []) ++ (if live then datagram_share port (λ q. is_open q h) (list_of_handle k h)
      (cut_of untyped_layout b) groups else [])
      ≡ (if live then datagram_share port (λ q. is_open q h) (list_of_handle k h)
      (cut_of untyped_layout (a ++ b)) groups else [])) [
        | true ↦ datagram_share-more port (λ q. is_open q h) (list_of_handle k h) groups a b whole
        | false ↦ refl
      ]

  part-one : (port k : ℕ) (groups : List ℕ) (h : History ST SP RT RP) (b : Bytes)
      → deliveries port k ((command.Datagram b groups, outcome.Done) ∷ h)
      ≡ deliveries port k h ++ part_of port k groups h b.items
  unfolding part_of
  part-one port k groups h b = deliveries-more port k (command.Datagram b groups, outcome.Done) h

  deliveries-came : (port k : ℕ) (groups : List ℕ) (bs : List Bytes) (h : History ST SP RT RP) → AreWholeBeforeLast bs
      → deliveries port k (history_with groups bs h) ≡ deliveries port k h ++ part_of port k groups h (concatenation bs)
  deliveries-came port k groups [] h whole =
      sym (append-nil (deliveries port k h)) ∙ ap (λ ds. deliveries port k h ++ ds) (sym (part-nothing port k groups h))
  deliveries-came port k groups (b ∷ []) h whole =
      part-one port k groups h b ∙ ap (λ (x : List ℕ). deliveries port k h ++ part_of port k groups h x)
      (sym (append-nil b.items))
  deliveries-came port k groups (b ∷ c ∷ later) h whole =
      let next = (command.Datagram b groups, outcome.Done) ∷ h in
      deliveries-came port k groups (c ∷ later) next whole.1
      ∙ rw (
        part-one port k groups h b,
        part-same port k groups next h (concatenation (c ∷ later))
            (alike-datagram b groups h),
      ) refl
      ∙ append_assoc (deliveries port k h) (part_of port k groups h b.items)
      (part_of port k groups h (concatenation (c ∷ later)))
      ∙ ap (λ ds. deliveries port k h ++ ds) (part-more port k groups h b.items (concatenation (c ∷ later)) whole.0)

  -- ---- the same bytes in other datagrams

  pub regrouped-alike : (groups : List ℕ) (bs cs : List Bytes) (before later : History ST SP RT RP)
      → IsAlike (later ++ history_with groups bs before) (later ++ history_with groups cs before)
  regrouped-alike groups bs cs before later =
      alike-after later (history_with groups bs before) (history_with groups cs before)
      (alike-both _ _ _ (alike-came groups bs before) (alike-back _ _ (alike-came groups cs before)))

  pub regrouped-deliveries : (port k : ℕ) (groups : List ℕ) (bs cs : List Bytes) (before later : History ST SP RT RP)
      → IsRegrouped bs cs → deliveries port k (later ++ history_with groups bs before)
      ≡ deliveries port k (later ++ history_with groups cs before)
  regrouped-deliveries port k groups bs cs before later r =
      deliveries-after port k later (history_with groups bs before) (history_with groups cs before)
      (regrouped-alike groups bs cs before [])
      (deliveries-came port k groups bs before r.0 ∙ ap
      (λ (x : List ℕ). deliveries port k before ++ part_of port k groups before x) r.2
      ∙ sym (deliveries-came port k groups cs before r.1))

  -- ---- and so with every later command

  items-came : (k : ℕ) (groups : List ℕ) (bs : List Bytes) (h : History ST SP RT RP)
      → items_of k (history_with groups bs h) ≡ items_of k h
  items-came k groups [] h = refl
  items-came k groups (b ∷ later) h = items-came k groups later ((command.Datagram b groups, outcome.Done) ∷ h)

  regrouped-same : (port : ℕ) (groups : List ℕ) (bs cs : List Bytes) (before : History ST SP RT RP) → IsRegrouped bs cs
      → IsSameFor port (λ k. ⊤) (history_with groups bs before) (history_with groups cs before)
  regrouped-same port groups bs cs before r = record {
    alike = regrouped-alike groups bs cs before [];
    delivered = λ k _. regrouped-deliveries port k groups bs cs before [] r;
    given = λ k _. items-came k groups bs before ∙ sym (items-came k groups cs before);
  }

  module _ (port : ℕ) (Said : History ST SP RT RP → Command ST SP → Outcome ST SP RT RP → Type 0)
      (respects : (h h' : History ST SP RT RP) → IsSameFor port (λ k. ⊤) h h'
      → (c : Command ST SP) (o : Outcome ST SP RT RP) → Said h c o → Said h' c o) where
    pub regrouped-each : (groups : List ℕ) (bs cs : List Bytes) (before : History ST SP RT RP)
        (commands : List (Command ST SP)) (outcomes : List (Outcome ST SP RT RP)) → IsRegrouped bs cs
        → EachAfter Said (history_with groups bs before) commands outcomes
        → EachAfter Said (history_with groups cs before) commands outcomes
    regrouped-each groups bs cs before commands outcomes r each =
        each-same port (λ k. ⊤) (λ c. ⊤) Said (λ h h' s c o _. respects h h' s c o) (history_with groups bs before)
        (history_with groups cs before) commands outcomes (regrouped-same port groups bs cs before r)
        (λ i d within. tt) each
