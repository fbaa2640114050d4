-- The deliveries to a handle, by the moments of a history.
use Rattle.std.specs.Prelude.{ℕ, List, [], ◌∷◌, ◌++◌}
use Rattle.std.specs.List.{filter, flat_map}
use Rattle.neli_reader.specs.Agreement.{untyped_layout}
use Rattle.neli_reader.specs.Cuts.{cut_of}
use Rattle.neli_deliveries.specs.Deliveries.{fault_share, datagram_share}
use Rattle.neli_deliveries.specs.declared.delivery.Delivery.{Delivery}
use Rattle.neli_runs.specs.declared.command.Command.{Command}
use Rattle.neli_runs.specs.declared.command.Command.TheVariants as command
use Rattle.neli_runs.specs.History.{History, is_handle_open, is_open, list_of_handle}

-- a moment: a command with its outcome, and the history before it
abbrev pub Moment : Type 0 → Type 0 → Type 0 → Type 0 → Type 0
Moment ST SP RT RP = Command ST SP × History ST SP RT RP

module _ {ST SP RT RP : Type 0} where
  -- the moments of a history, the first one first
  abbrev pub moments : History ST SP RT RP → List (Moment ST SP RT RP)
  moments [] = []
  moments (e ∷ h) = moments h ++ (e.0, h) ∷ []

  -- the deliveries to handle k from a command after this history: its part of a datagram, which is cut into messages,
  -- or of a fault of the link
  abbrev pub handed_over : ℕ → ℕ → Command ST SP → History ST SP RT RP → List Delivery
  handed_over port k (command.Datagram b groups) h =
      datagram_share port (λ q. is_open q h) (list_of_handle k h) (cut_of untyped_layout b.items) groups
  handed_over port k (command.Fault e) h = fault_share (list_of_handle k h) e
  handed_over port k (command.SetNextSeq n) h = []
  handed_over port k (command.Send t f p) h = []
  handed_over port k (command.Read j) h = []
  handed_over port k (command.Close j) h = []

  -- the deliveries to handle k: those of each moment at which it was open, in order
  abbrev pub deliveries : ℕ → ℕ → History ST SP RT RP → List Delivery
  deliveries port k h =
      flat_map (λ m. handed_over port k m.0 m.1) (filter (λ m. is_handle_open k m.1) (moments h))
