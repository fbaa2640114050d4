-- Giving up: the numbers that stay open until the end of their answer, and the fate of their deliveries.
use Rattle.std.specs.Prelude.{ℕ, ◌≡◌, Bool, true, false, ◌&&◌, ◌||◌, ◌==◌, if◌then◌else◌, List, [], ◌∷◌, ◌++◌}
use Rattle.std.specs.Prelude.{filter, is_some}
use Rattle.std.specs.Prelude.{None, Option, Some}
use Rattle.std.specs.List.{list_any}
use Rattle.std.specs.Option.{option_map}
use Rattle.neli_lent.specs.Messages.{Lent, code_of}
use Rattle.neli_deliveries.specs.declared.delivery.Delivery.{Delivery}
use Rattle.neli_router.specs.declared.given_up.GivenUp.{GivenUp}
use Rattle.neli_router.specs.declared.verdict.Heard.{Heard}
use Rattle.neli_router.specs.Verdicts.{is_last_delivery}
use Rattle.neli_answers.specs.Answers.{ends_answer}
use Rattle.neli_answers.specs.declared.answering.Answering.{Answering}

-- whether a number was given up, and is still open
abbrev pub is_given_up : List GivenUp → Option ℕ → Bool
is_given_up given_up None = false
is_given_up given_up (Some q) = list_any (λ g. g.number == q) given_up

-- a request that was given up
abbrev pub given_up : ℕ → Answering → GivenUp
given_up number answering = record { number = number; answering = answering }

-- those whose numbers are still open
abbrev pub still_open : {A : Type 0} → (Option ℕ → Option A) → List GivenUp → List GivenUp
still_open pending requests = filter (λ g. is_some (pending (Some g.number))) requests

-- ---- new messages

-- the message is the last that answers this request: it has the router's port and the number
abbrev pub ends_it : ℕ → GivenUp → Lent ℕ → Bool
ends_it port g m =
    (m.0.port == port)
    && ((m.0.sequence_number == g.number) && ends_answer g.answering m.0.message_type m.0.flags (code_of m))

-- the answer to a request that was given up ends with these messages
abbrev pub has_end : ℕ → List GivenUp → List (Lent ℕ) → ℕ → Bool
has_end port given_up messages q = list_any (λ g. (g.number == q) && list_any (ends_it port g) messages) given_up

-- the messages that answer requests: those of a datagram that arrived for no group
abbrev pub ungrouped : List ℕ → List (Lent ℕ) → List (Lent ℕ)
ungrouped [] messages = messages
ungrouped (g ∷ groups) messages = []

-- the lists kept after these messages: of a number that was given up nothing, and it is closed if its answer ends; of
-- others all
abbrev pub kept_of : {A : Type 0} → ℕ → List GivenUp → List (Lent ℕ) → Option ℕ → Option (List A) → Option (List A)
kept_of port given_up messages None waiting = waiting
kept_of port given_up messages (Some q) waiting =
    if has_end port given_up messages q then None
    else (if is_given_up given_up (Some q) then option_map (λ _. []) waiting else waiting)

-- ---- deliveries that waited when it was given up

-- the last message of the answer is among these deliveries
abbrev pub finishes : Answering → List Delivery → Bool
finishes answering ds = list_any (is_last_delivery answering) ds

-- the answer to a request has ended, by what is known of it and what waits
abbrev pub has_finished : Heard → List Delivery → Bool
has_finished known ds = known.finished || finishes known.answering ds

-- the number q is given up: closed if its answer has ended, else open with an empty list, and among those given up
abbrev pub IsLeft : ℕ → Answering → Bool → List GivenUp → (Option ℕ → Option (List Delivery)) → List GivenUp → Type 0
IsLeft q answering true before pending after = (pending (Some q) ≡ None) × (after ≡ still_open pending before)
IsLeft q answering false before pending after =
    (pending (Some q) ≡ Some []) × (after ≡ before ++ given_up q answering ∷ [])
