-- Datagrams that answer requests, in a history.
use Rattle.std.specs.Prelude.{◌≡◌, ⊤, ◌==◌, ◌++◌, ℕ, suc, true, All, List, [], ◌∷◌, None}
use Rattle.std.specs.List.{filter}
use Rattle.neli_consts.specs.declared.nlm_f.NlmF.{NlmF}
use Rattle.neli_reader.specs.Agreement.{untyped_layout}
use Rattle.neli_reader.specs.Cuts.{cut_of}
use Rattle.neli_reader.specs.NlPayload.{NlPayload}
use Rattle.neli_deliveries.specs.Deliveries.{Untyped, is_reply}
use Rattle.neli_runs.specs.declared.command.Command.{Command}
use Rattle.neli_runs.specs.declared.command.Command.TheVariants as command
use Rattle.neli_runs.specs.declared.command.Outcome.TheVariants as outcome
use Rattle.neli_runs.specs.History.{History, is_open, requests_sent}
use Rattle.neli_runs.specs.Regrouping.{Bytes}

-- the messages of a datagram that have this number
abbrev pub numbered : ℕ → List ℕ → List Untyped
numbered number datagram = filter (λ u. u.0.sequence_number == number) (cut_of untyped_layout datagram).0

module _ {ST SP : Type 0} where
  -- those of a datagram that is taken in and arrived for no group; one for groups, or another command, has none
  abbrev pub brought : ℕ → Command ST SP → List Untyped
  brought number (command.Datagram b []) = numbered number b.items
  brought number (command.Datagram b (g ∷ groups)) = []
  brought number (command.SetNextSeq n) = []
  brought number (command.Send t f p) = []
  brought number (command.Fault e) = []
  brought number (command.Read k) = []
  brought number (command.Close k) = []

module _ {ST SP RT RP : Type 0} where
  -- those of all datagrams that were taken in, in order
  abbrev pub came : ℕ → History ST SP RT RP → List Untyped
  came number [] = []
  came number (e ∷ later) = came number later ++ brought number e.0

  -- a datagram that is taken in after this history has no fault, and one that arrived for no group answers requests:
  -- each of its messages has the router's port and an open number; and the link does not fail
  abbrev pub Answers : ℕ → History ST SP RT RP → Command ST SP → Type 0
  Answers port h (command.Datagram b groups) =
      ((cut_of untyped_layout b.items).1 ≡ None)
      × (groups ≡ [] → All (λ u. is_reply port (λ q. is_open q h) u ≡ true) (cut_of untyped_layout b.items).0)
  Answers port h (command.Fault e) = ⊥
  Answers port h (command.SetNextSeq n) = ⊤
  Answers port h (command.Send t f p) = ⊤
  Answers port h (command.Read k) = ⊤
  Answers port h (command.Close k) = ⊤

  -- and each that was taken in after the history h
  abbrev pub AllAnswer : ℕ → History ST SP RT RP → History ST SP RT RP → Type 0
  AllAnswer port [] h = ⊤
  AllAnswer port (e ∷ later) h = Answers port (later ++ h) e.0 × AllAnswer port later h

  -- the history, and after it this request, which was sent as these bytes
  abbrev pub history_sent : History ST SP RT RP → ST → NlmF → NlPayload ST SP → Bytes → History ST SP RT RP
  history_sent before t flags payload sent = (command.Send t flags payload, outcome.Sent sent) ∷ before

  -- the handle of the request that is sent after this history
  abbrev pub handle_after : History ST SP RT RP → ℕ
  handle_after before = suc (requests_sent before)
