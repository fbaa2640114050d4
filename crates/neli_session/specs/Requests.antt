-- A request: what comes for it, until nothing more can come.
use Rattle.std.specs.Prelude.{ℕ, ℤ, pos, Bool, true, false, not, ◌&&◌, ◌||◌, ◌==◌, nat_eq, if◌then◌else◌}
use Rattle.std.specs.Prelude.{List, [], ◌∷◌, ◌++◌, Option, Some, None, Ok, Err, is_some}
use Rattle.std.specs.Map.{lookup}
use Rattle.std.specs.Option.{option_map}
use Rattle.std.specs.Ordering.{int_eq}
use Rattle.neli_answers.specs.Answers.{ends_answer, has_all}
use Rattle.neli_answers.specs.declared.answering.Answering.{Answering}
use Rattle.neli_answers.specs.declared.answering.Answering.TheVariants as answered
use Rattle.neli_lent.specs.Messages.{Lent, code_of}
use Rattle.neli_session.specs.declared.change.Change.{Change}
use Rattle.neli_session.specs.declared.change.Change.TheVariants as change
use Rattle.neli_session.specs.declared.line.Place.{Place}
use Rattle.neli_session.specs.declared.loss.Loss.{Loss}
use Rattle.neli_session.specs.declared.loss.Loss.TheVariants as loss
use Rattle.neli_session.specs.declared.request.Request.{Request}
use Rattle.neli_session.specs.declared.request.Stage.{Stage}
use Rattle.neli_session.specs.declared.request.Stage.TheVariants as stage
use Rattle.neli_session.specs.declared.request.Verdict.{Verdict}
use Rattle.neli_session.specs.declared.request.Verdict.TheVariants as stands
use Rattle.neli_session.specs.Waiting.{Item}

-- ---- what comes

-- something may still come for it: the link sends it or has sent it, and its answer has not ended
abbrev pub is_awaited : Stage → Bool
is_awaited stage.Leaving = true
is_awaited stage.Awaited = true
is_awaited s = false

-- nothing comes for it any more
abbrev pub is_over : Stage → Bool
is_over stage.Ended = true
is_over stage.Silent = true
is_over s = false

-- a message for this group, or for none, which is 0, answers the request: the notification of its change comes in the
-- group's name
abbrev pub answers : ℕ → Request → Bool
answers group r = is_awaited r.stage && ((group == 0) || r.echoes)

-- what is kept for a reader is kept: somebody reads, and nothing was lost
abbrev pub keeps : Request → Bool
keeps r = r.is_open && not (is_some r.loss)

-- what waits after a message
abbrev pub with_message : Lent ℕ → Request → List Item
with_message m r = if keeps r then r.waiting ++ Ok m ∷ [] else r.waiting

-- an answer of this kind ends with this message
abbrev pub ends : Answering → Lent ℕ → Bool
ends a m = ends_answer a m.0.message_type m.0.flags (code_of m)

-- a message of its answer has come
abbrev pub heard : Lent ℕ → Request → Request
heard m r = record r {
  waiting = with_message m r;
  stage = if ends r.answering m then stage.Ended else r.stage;
}

-- something was lost while its answer was awaited: the first loss counts
abbrev pub loss_after : Loss → Request → Option Loss
loss_after l r = if is_awaited r.stage && not (is_some r.loss) then Some l else r.loss

abbrev pub lost : Loss → Request → Request
lost l r = record r { loss = loss_after l r }

-- ---- how it leaves, and that nothing more comes

-- the link sends it: its answer may come from now on
abbrev pub left_at : Stage → Stage
left_at stage.Queued = stage.Leaving
left_at s = s

-- the link has sent it
abbrev pub sent_at : Stage → Stage
sent_at stage.Leaving = stage.Awaited
sent_at s = s

-- the link was seen empty: nothing more comes for what was sent before
abbrev pub settled : Stage → Stage
settled stage.Awaited = stage.Silent
settled s = s

-- the link has not sent it: that is lost, and nothing comes
abbrev pub unsent_at : Stage → ℤ → Request → Request
unsent_at stage.Leaving errno r = record (lost (loss.Unsent errno) r) { stage = stage.Silent }
unsent_at s errno r = r

abbrev pub unsent : ℤ → Request → Request
unsent errno r = unsent_at r.stage errno r

-- a request after what happens to it
abbrev pub changed : Change → Request → Request
changed change.Leave r = record r { stage = left_at r.stage }
changed change.Sent r = record r { stage = sent_at r.stage }
changed (change.Unsent errno) r = unsent errno r
changed (change.Lose l) r = lost l r
changed change.Settle r = record r { stage = settled r.stage }

-- ---- what is read

-- the loss that is still to be read
abbrev pub untold : Request → Option Loss
untold r = if r.is_told then None else r.loss

-- the first of what waits, or else the loss
abbrev pub first_item : List Item → Option Loss → Option Item
first_item (x ∷ xs) l = Some x
first_item [] (Some l) = Some (Err l)
first_item [] None = None

-- the next item: what waits, and then the loss, once
abbrev pub next_item : Request → Option Item
next_item r = first_item r.waiting (untold r)

-- ---- the verdict

-- by a message: marked as interrupted (NLM_F_DUMP_INTR, 16), or with another code than 0
abbrev pub message_verdict : Lent ℕ → Verdict
message_verdict m =
    if has_all 16 m.0.flags then stands.Interrupted
    else (if int_eq (code_of m) (pos 0) then stands.Pending else stands.Failed (code_of m))

abbrev pub item_verdict : Item → Verdict
item_verdict (Ok m) = message_verdict m
item_verdict (Err l) = stands.Lost l

-- the first that is not pending stays
abbrev pub verdict_with : Verdict → Item → Verdict
verdict_with stands.Pending x = item_verdict x
verdict_with v x = v

-- by how the answer ended, where all of it was read
abbrev pub end_verdict : Stage → Answering → Verdict
end_verdict stage.Ended a = stands.Complete
end_verdict stage.Silent answered.Silence = stands.Complete
end_verdict stage.Silent a = stands.Unanswered
end_verdict s a = stands.Pending

-- by what was read, or, if nothing waits, by how the answer ended
abbrev pub verdict_at : Verdict → Option Item → Verdict → Verdict
verdict_at stands.Pending None ended = ended
verdict_at v item ended = v

-- the kernel marked it: it left objects out of the list, as the request wanted (NLM_F_DUMP_FILTERED, 32)
abbrev pub is_marked : Item → Bool
is_marked (Ok m) = has_all 32 m.0.flags
is_marked (Err l) = false

-- the verdict on its answer
abbrev pub verdict_of : Request → Verdict
verdict_of r = verdict_at r.noted (next_item r) (end_verdict r.stage r.answering)

-- ---- one read

-- after what waits first was read, or else the loss
abbrev pub passed_by : List Item → Option Loss → Request → Request
passed_by (x ∷ xs) l r = record r {
  waiting = xs;
  noted = verdict_with r.noted x;
  is_filtered = is_marked x || r.is_filtered;
}
passed_by [] (Some l) r = record r { is_told = true; noted = verdict_with r.noted (Err l) }
passed_by [] None r = r

-- after the next item was read
abbrev pub passed : Request → Request
passed r = passed_by r.waiting (untold r) r

-- ---- the requests whose numbers are in use

-- the requests by their numbers, each with its place in line, and the numbers of those that have something to read, in
-- order
pub record Held : Type 0 where
  pub entries : List (ℕ × Place)
  pub line : List ℕ

-- the place of a number, if it is in use, and the request
abbrev pub place_of : ℕ → List (ℕ × Place) → Option Place
place_of q entries = lookup (nat_eq q) entries

abbrev pub of_number : ℕ → List (ℕ × Place) → Option Request
of_number q entries = option_map (λ p. p.request) (place_of q entries)

-- the request that a message answers, by its number
abbrev pub own_of : Lent ℕ → List (ℕ × Place) → Option Request
own_of m entries = of_number m.0.sequence_number entries
