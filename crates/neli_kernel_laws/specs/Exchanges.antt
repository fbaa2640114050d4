-- A request in a history, and the datagrams that arrived for it.
use Rattle.std.specs.Prelude.{◌≡◌, ⊤, ◌++◌, ◌∷◌, ℕ, false, List, [], Result}
use Rattle.neli_wire.specs.declared.errors.DeError.{DeError}
use Rattle.neli_consts.specs.declared.nlm_f.NlmF.{NlmF}
use Rattle.neli_reader.specs.NlPayload.{NlPayload}
use Rattle.neli_deliveries.specs.Deliveries.{Untyped}
use Rattle.neli_deliveries.specs.Readings.{Item}
use Rattle.neli_runs.specs.declared.command.Command.{Command}
use Rattle.neli_runs.specs.declared.command.Command.TheVariants as command
use Rattle.neli_runs.specs.declared.command.Outcome.{Outcome}
use Rattle.neli_runs.specs.History.{History, is_closed, items_of, next_number}
use Rattle.neli_runs.specs.Outcomes.{IsAnswered, outcome_of}
use Rattle.neli_runs.specs.Regrouping.{Bytes}
use Rattle.neli_runs.specs.Reply.{Reply}
use Rattle.neli_kernel.specs.declared.request.Request.{Request}
use Rattle.neli_kernel_laws.specs.Served.{Answers, brought, handle_after, history_sent, numbered}
use Rattle.neli_kernel_laws.specs.Turns.{IsInTurn, IsReadAs}

-- the history before a request, the request and its bytes, and the history since
pub record Exchange (ST SP RT RP : Type 0) : Type 0 where
  pub before : History ST SP RT RP
  pub message_type : ST
  pub flags : NlmF
  pub payload : NlPayload ST SP
  pub sent : Bytes
  pub later : History ST SP RT RP

-- a datagram, if it has messages
abbrev pub datagram_with : List ℕ → List Untyped → List (List ℕ)
datagram_with datagram [] = []
datagram_with datagram (u ∷ us) = datagram ∷ []

module _ {ST SP : Type 0} where
  -- a datagram that is taken in, if it arrived for no group and has a message of this number
  abbrev pub taken_with : ℕ → Command ST SP → List (List ℕ)
  taken_with number (command.Datagram b []) = datagram_with b.items (numbered number b.items)
  taken_with number (command.Datagram b (g ∷ groups)) = []
  taken_with number (command.SetNextSeq n) = []
  taken_with number (command.Send t f p) = []
  taken_with number (command.Fault e) = []
  taken_with number (command.Read k) = []
  taken_with number (command.Close k) = []

module _ {ST SP RT RP : Type 0} where
  -- the datagrams that were taken in, in order, each of which arrived for no group and has a message of this number
  abbrev pub datagrams_with : ℕ → History ST SP RT RP → List (List ℕ)
  datagrams_with number [] = []
  datagrams_with number (e ∷ later) = datagrams_with number later ++ taken_with number e.0

  -- a datagram that is taken in after this history and has no message of this number has no fault, and answers other
  -- requests if it arrived for no group; and the link does not fail
  abbrev pub OthersAnswer : ℕ → ℕ → History ST SP RT RP → Command ST SP → Type 0
  OthersAnswer number port h (command.Datagram b groups) =
      brought {ST = ST} {SP = SP} number (command.Datagram b groups) ≡ [] → Answers port h (command.Datagram b groups)
  OthersAnswer number port h (command.Fault e) = ⊥
  OthersAnswer number port h (command.SetNextSeq n) = ⊤
  OthersAnswer number port h (command.Send t f p) = ⊤
  OthersAnswer number port h (command.Read k) = ⊤
  OthersAnswer number port h (command.Close k) = ⊤

  -- and each that was taken in after the history h
  abbrev pub AllOthersAnswer : ℕ → ℕ → History ST SP RT RP → History ST SP RT RP → Type 0
  AllOthersAnswer number port [] h = ⊤
  AllOthersAnswer number port (e ∷ later) h =
      OthersAnswer number port (later ++ h) e.0 × AllOthersAnswer number port later h

  -- the history with the request, to its end
  abbrev pub history_with : Exchange ST SP RT RP → History ST SP RT RP
  history_with x = history_sent x.before x.message_type x.flags x.payload x.sent

  abbrev pub history_of : Exchange ST SP RT RP → History ST SP RT RP
  history_of x = x.later ++ history_with x

  -- the request's number and its handle
  abbrev pub own_number : Exchange ST SP RT RP → ℕ
  own_number x = next_number x.before

  abbrev pub own_handle : Exchange ST SP RT RP → ℕ
  own_handle x = handle_after x.before

  -- the other side's answer has the request's number, its handle was not closed, and of the datagrams that arrived
  -- since, these are the ones with a message of that number; the others answer other requests
  pub record IsServed (x : Exchange ST SP RT RP) (asked : Request) (datagrams : List (List ℕ)) : Type 0 where
    pub number_is : asked.header.sequence_number ≡ own_number x
    pub stays_open : is_closed (own_handle x) (history_of x) ≡ false
    pub own : datagrams_with (own_number x) x.later ≡ datagrams
    pub others : AllOthersAnswer (own_number x) asked.port x.later (history_with x)

  -- the outcome of a read of the request's handle: the next of these messages, or the end
  abbrev pub IsReadInTurn : (Untyped → Item RT RP → Type 0) → List Untyped → Exchange ST SP RT RP → Outcome ST SP RT RP
      → Type 0
  IsReadInTurn IsRead us x o =
      (r : Reply RT RP) × IsInTurn IsRead us (items_of (own_handle x) (history_of x)) r × (o ≡ outcome_of r)

module _ {ST SP K P V : Type 0} (type_of : ℕ → K) (number_of : K → ℕ) (view : P → V) (size : P → ℕ) (read : List ℕ
    → Result V DeError) where
  -- in a router with this port each read of the request's handle returns the next of these messages, as the caller's
  -- types, and past the last of them, or after an error, the end
  abbrev pub ReadsGive : ℕ → List Untyped → Exchange ST SP K P → Type 0
  ReadsGive port us x =
      (o : Outcome ST SP K P) → IsAnswered type_of number_of view size read port (history_of x)
      (command.Read (own_handle x)) o → IsReadInTurn (IsReadAs type_of view size read) us x o
