-- The deliveries to a handle, event by event; they equal those by moments.
use Rattle.std.proofs.Common.{◌≡◌, ℕ, Bool, true, false, List, [], ◌∷◌, ◌++◌, refl, sym, ap, ◌∙◌, append_assoc}
use Rattle.std.specs.Prelude.{if◌then◌else◌}
use Rattle.std.specs.List.{filter, flat_map}
use Rattle.std.proofs.lemmas.List.{append-nil}
use Rattle.neli_reader.specs.Agreement.{untyped_layout}
use Rattle.neli_reader.specs.Cuts.{cut_of}
use Rattle.neli_deliveries.specs.Deliveries.{fault_share, datagram_share}
use Rattle.neli_deliveries.specs.declared.delivery.Delivery.{Delivery}
use Rattle.neli_runs.specs.declared.command.Command.{Command}
use Rattle.neli_runs.specs.declared.command.Command.TheVariants as command
use Rattle.neli_runs.specs.History.{Event, History, is_handle_open, is_open, list_of_handle}
use Rattle.neli_runs.specs.Deliveries.{Moment, deliveries, handed_over, moments}

gain-nothing : (b : Bool) (xs : List Delivery) → xs ++ (if b then [] else []) ≡ xs
gain-nothing true xs = append-nil xs
gain-nothing false xs = append-nil xs

gain-some : (b : Bool) (xs ys : List Delivery) → xs ++ (if b then ys else []) ≡ (if b then xs ++ ys else xs)
gain-some true xs ys = refl
gain-some false xs ys = append-nil xs

module _ {ST SP RT RP : Type 0} where
  -- the deliveries so far, with those of one command more
  abbrev pub with_gain : ℕ → ℕ → History ST SP RT RP → Command ST SP → List Delivery → List Delivery
  with_gain port k h (command.Datagram b groups) before =
      if is_handle_open k h then before ++ datagram_share port (λ q. is_open q h) (list_of_handle k h)
      (cut_of untyped_layout b.items) groups else before
  with_gain port k h (command.Fault e) before = if is_handle_open k h then before ++ fault_share (list_of_handle k h) e
      else before
  with_gain port k h (command.SetNextSeq n) before = before
  with_gain port k h (command.Send t f p) before = before
  with_gain port k h (command.Read j) before = before
  with_gain port k h (command.Close j) before = before

  -- the deliveries to handle k, event by event
  abbrev pub delivered : ℕ → ℕ → History ST SP RT RP → List Delivery
  delivered port k [] = []
  delivered port k (e ∷ h) = with_gain port k h e.0 (delivered port k h)

  -- one moment more
  by_moment : ℕ → ℕ → Moment ST SP RT RP → List Delivery
  by_moment port k m = handed_over port k m.0 m.1

  live_at : ℕ → Moment ST SP RT RP → Bool
  live_at k m = is_handle_open k m.1

  one-more : (port k : ℕ) (ms : List (Moment ST SP RT RP)) (c : Command ST SP) (h : History ST SP RT RP)
      → flat_map (by_moment port k) (filter (live_at k) (ms ++ (c, h) ∷ []))
      ≡ flat_map (by_moment port k) (filter (live_at k) ms) ++ (if is_handle_open k h then handed_over port k c h
      else [])
  unfolding by_moment live_at
  one-more port k [] c h = elim (is_handle_open k h) as
      (λ b. flat_map (by_moment port k) (if b then (c, h) ∷ [] else []) ≡ (if b then handed_over port k c h
      else [])) [ true ↦ append-nil (handed_over port k c h) | false ↦ refl ]
  one-more port k (m ∷ ms) c h = elim (is_handle_open k m.1) as
      (λ b. flat_map (by_moment port k) (if b then m ∷ filter (live_at k) (ms ++ (c, h) ∷ [])
      else filter (live_at k) (ms ++ (c, h) ∷ [])) ≡ flat_map (by_moment port k) (if b then m ∷ filter (live_at k) ms
      else filter (live_at k) ms) ++ (if is_handle_open k h then handed_over port k c h else [])) [
        | true ↦ ap (λ zs. by_moment port k m ++ zs) (one-more port k ms c h)
            ∙ sym (append_assoc (by_moment port k m) (flat_map (by_moment port k) (filter (live_at k) ms))
            (if is_handle_open k h then handed_over port k c h else []))
        | false ↦ one-more port k ms c h
      ]

  gain-is : (port k : ℕ) (h : History ST SP RT RP) (c : Command ST SP) (before : List Delivery)
      → before ++ (if is_handle_open k h then handed_over port k c h else []) ≡ with_gain port k h c before
  gain-is port k h (command.Datagram b groups) before = gain-some (is_handle_open k h) before _
  gain-is port k h (command.Fault e) before = gain-some (is_handle_open k h) before _
  gain-is port k h (command.SetNextSeq n) before = gain-nothing (is_handle_open k h) before
  gain-is port k h (command.Send t f p) before = gain-nothing (is_handle_open k h) before
  gain-is port k h (command.Read j) before = gain-nothing (is_handle_open k h) before
  gain-is port k h (command.Close j) before = gain-nothing (is_handle_open k h) before

  -- one more command adds its deliveries
  pub deliveries-more : (port k : ℕ) (e : Event ST SP RT RP) (h : History ST SP RT RP)
      → deliveries port k (e ∷ h) ≡ deliveries port k h ++ (if is_handle_open k h then handed_over port k e.0 h else [])
  unfolding by_moment live_at
  deliveries-more port k e h = one-more port k (moments h) e.0 h

  -- the two are the same
  pub deliveries-delivered : (port k : ℕ) (h : History ST SP RT RP) → deliveries port k h ≡ delivered port k h
  unfolding by_moment live_at
  deliveries-delivered port k [] = refl
  deliveries-delivered port k (e ∷ h) =
      one-more port k (moments h) e.0 h
      ∙ ap (λ ds. ds ++ (if is_handle_open k h then handed_over port k e.0 h else [])) (deliveries-delivered port k h)
      ∙ gain-is port k h e.0 (delivered port k h)
