-- All that happens to one request, and what its reads return.
use Rattle.std.specs.Prelude.{◌≡◌, ℕ, Bool, true, false, ◌&&◌, ◌||◌, ◌==◌, if◌then◌else◌, List, [], ◌∷◌, ◌++◌}
use Rattle.std.specs.Prelude.{Option, Some, None, Ok, Err}
use Rattle.neli_answers.specs.declared.answering.Answering.{Answering}
use Rattle.neli_lent.specs.Messages.{Lent}
use Rattle.neli_session.specs.declared.change.Change.{Change}
use Rattle.neli_session.specs.declared.change.Change.TheVariants as change
use Rattle.neli_session.specs.declared.loss.Loss.{Loss}
use Rattle.neli_session.specs.declared.loss.Loss.TheVariants as loss
use Rattle.neli_session.specs.declared.request.Request.{Request}
use Rattle.neli_session.specs.declared.request.Stage.{Stage}
use Rattle.neli_session.specs.declared.request.Stage.TheVariants as stage
use Rattle.neli_session.specs.Requests.{answers, changed, ends, heard, is_awaited, left_at, next_item, passed, sent_at}
use Rattle.neli_session.specs.Requests.{settled, untold}
use Rattle.neli_session.specs.Sessions.{after_all, is_own, queued}
use Rattle.neli_session.specs.Waiting.{Item}

-- a message with its number came, of this group or of none; it left, was sent or not, something was lost, or the link
-- was seen empty; it was read
pub data Happening : Type 0 where
  Came : ℕ → Lent ℕ → Happening
  Changed : Change → Happening
  Read : Happening

-- as a list
abbrev pub item_list : Option Item → List Item
item_list None = []
item_list (Some x) = x ∷ []

abbrev pub loss_list : Option Loss → List Item
loss_list None = []
loss_list (Some l) = Err l ∷ []

-- ---- by the calls, one after the other

-- the request after it
abbrev pub then_is : Happening → Request → Request
then_is (Came group m) r = if answers group r then heard m r else r
then_is (Changed c) r = changed c r
then_is Read r = passed r

-- the item that a read returned, if it returned one
abbrev pub returned : Happening → Request → List Item
returned Read r = item_list (next_item r)
returned h r = []

-- all that its reads returned, in order, and how the request is then
abbrev pub returned_by : List Happening → Request → List Item
returned_by [] r = []
returned_by (h ∷ hs) r = returned h r ++ returned_by hs (then_is h r)

abbrev pub after_happenings : List Happening → Request → Request
after_happenings [] r = r
after_happenings (h ∷ hs) r = after_happenings hs (then_is h r)

-- how far it is, by what happens alone
abbrev pub unsent_stage : Stage → Stage
unsent_stage stage.Leaving = stage.Silent
unsent_stage s = s

abbrev pub stage_after : Answering → Bool → Happening → Stage → Stage
stage_after a echoes (Came group m) s =
    if is_awaited s && ((group == 0) || echoes)
    then (if ends a m then stage.Ended else s) else s
stage_after a echoes (Changed change.Leave) s = left_at s
stage_after a echoes (Changed change.Sent) s = sent_at s
stage_after a echoes (Changed (change.Unsent errno)) s = unsent_stage s
stage_after a echoes (Changed (change.Lose l)) s = s
stage_after a echoes (Changed change.Settle) s = settled s
stage_after a echoes Read s = s

abbrev pub stage_by : Answering → Bool → List Happening → Stage → Stage
stage_by a echoes [] s = s
stage_by a echoes (h ∷ hs) s = stage_by a echoes hs (stage_after a echoes h s)

-- what is still to be read: what waits, and the loss if it was not read
abbrev pub left : Request → List Item
left r = r.waiting ++ loss_list (untold r)

-- ---- by the whole of it

-- what comes once it left: the messages for no group, or for any if its notifications are part of it, up to the first
-- that ends it; but up to the first loss, if that comes before, and then the loss; that it was not sent is one; and
-- nothing after the link was seen empty since it was sent
abbrev pub answer_since : Bool → Answering → Bool → List Happening → List Item
answer_since sent a echoes [] = []
answer_since sent a echoes (Came group m ∷ hs) =
    if (group == 0) || echoes
    then Ok m ∷ (if ends a m then [] else answer_since sent a echoes hs)
    else answer_since sent a echoes hs
answer_since sent a echoes (Changed change.Leave ∷ hs) = answer_since sent a echoes hs
answer_since sent a echoes (Changed change.Sent ∷ hs) = answer_since true a echoes hs
answer_since true a echoes (Changed (change.Unsent errno) ∷ hs) = answer_since true a echoes hs
answer_since false a echoes (Changed (change.Unsent errno) ∷ hs) = Err (loss.Unsent errno) ∷ []
answer_since sent a echoes (Changed (change.Lose l) ∷ hs) = Err l ∷ []
answer_since true a echoes (Changed change.Settle ∷ hs) = []
answer_since false a echoes (Changed change.Settle ∷ hs) = answer_since false a echoes hs
answer_since sent a echoes (Read ∷ hs) = answer_since sent a echoes hs

-- the answer: nothing comes before it leaves
abbrev pub answer : Answering → Bool → List Happening → List Item
answer a echoes [] = []
answer a echoes (Changed change.Leave ∷ hs) = answer_since false a echoes hs
answer a echoes (h ∷ hs) = answer a echoes hs

-- ---- what a call is for one request

-- of the messages of a datagram of this group, those that came for the request with the number q of this port
abbrev pub came_for : ℕ → ℕ → ℕ → List (Lent ℕ) → List Happening
came_for port group q [] = []
came_for port group q (m ∷ ms) =
    if is_own port m && (m.0.sequence_number == q) then Came group m ∷ came_for port group q ms
    else came_for port group q ms

-- ---- the laws

-- messages change a request that somebody reads as those do that came for it
abbrev pub DatagramsAreHappenings : Type 0
DatagramsAreHappenings =
    (port group q : ℕ) (ms : List (Lent ℕ)) (r : Request) → r.is_open ≡ true
    → after_all port group ms q (Some r) ≡ Some (after_happenings (came_for port group q ms) r)

-- a request is answered as it was, and is as far as what happened says
abbrev pub StagesFollow : Type 0
StagesFollow =
    (a : Answering) (echoes : Bool) (hs : List Happening)
    → ((after_happenings hs (queued a echoes)).answering ≡ a)
    × ((after_happenings hs (queued a echoes)).stage ≡ stage_by a echoes hs stage.Queued)

-- whatever happens to a request that waits to be sent: what its reads returned, and then what is still to be read, is the
-- answer, each item once and in order
abbrev pub ReadsAreTheAnswer : Type 0
ReadsAreTheAnswer =
    (a : Answering) (echoes : Bool) (hs : List Happening)
    → returned_by hs (queued a echoes) ++ left (after_happenings hs (queued a echoes)) ≡ answer a echoes hs
