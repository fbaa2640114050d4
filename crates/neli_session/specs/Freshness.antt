-- A list of the kernel's objects that a program keeps: whether it is current, by all that happened to it.
use Rattle.std.specs.Prelude.{◌≡◌, ℕ, Bool, true, false, ◌==◌, ◌||◌, if◌then◌else◌, List, [], ◌∷◌, ◌++◌, Option, Some, None, negsuc}
use Rattle.std.specs.Ordering.{int_eq}
use Rattle.std.specs.List.{list_any}
use Rattle.neli_session.specs.declared.freshness.Freshness.{Freshness}
use Rattle.neli_session.specs.declared.freshness.Freshness.TheVariants as list
use Rattle.neli_session.specs.declared.request.Verdict.{Verdict}
use Rattle.neli_session.specs.declared.request.Verdict.TheVariants as stands

-- the list was requested with this number; the answer to a number has ended, with this verdict; something was lost of
-- what came to groups
pub data Event : Type 0 where
  Requested : ℕ → Event
  Ended : ℕ → Verdict → Event
  Lost : Event

-- a list with this verdict may be complete when it is requested again: its objects changed meanwhile, something of it
-- was lost, or the kernel ran another dump (-16, EBUSY) or had no room for this one (-105, ENOBUFS)
abbrev pub is_passing : Verdict → Bool
is_passing stands.Interrupted = true
is_passing (stands.Lost l) = true
is_passing (stands.Failed code) = int_eq code (negsuc 15) || int_eq code (negsuc 104)
is_passing v = false

-- ---- by the calls, one after the other

-- by the verdict on the answer
abbrev pub judged : Verdict → Freshness
judged stands.Complete = list.Current
judged v = list.Stale

-- the list after it
abbrev pub ended_as : ℕ → Verdict → Freshness → Freshness
ended_as number v (list.Read q) = if q == number then judged v else list.Read q
ended_as number v f = f

abbrev pub then_is : Event → Freshness → Freshness
then_is (Requested number) f = list.Read number
then_is (Ended number v) f = ended_as number v f
then_is Lost f = list.Stale

abbrev pub after_events : List Event → Freshness → Freshness
after_events [] f = f
after_events (e ∷ es) f = after_events es (then_is e f)

-- ---- by the whole of it

abbrev pub is_request : Event → Bool
is_request (Requested number) = true
is_request e = false

abbrev pub is_loss : Event → Bool
is_loss Lost = true
is_loss e = false

-- the first verdict on the answer to a number
abbrev pub verdict_in : ℕ → List Event → Option Verdict
verdict_in q [] = None
verdict_in q (Ended number v ∷ es) = if q == number then Some v else verdict_in q es
verdict_in q (e ∷ es) = verdict_in q es

-- a list that was requested with the number q is being read until its answer has ended
abbrev pub judged_in : ℕ → Option Verdict → Freshness
judged_in q None = list.Read q
judged_in q (Some v) = judged v

-- by what happened since that request: stale, if anything was lost, whether its answer has ended or not
abbrev pub since : ℕ → List Event → Freshness
since q es = if list_any is_loss es then list.Stale else judged_in q (verdict_in q es)

-- ---- the laws

-- a list is current where its last request was answered completely, and nothing was lost since it was made; it is being
-- read where nothing was lost and its answer has not ended, and else it is stale
abbrev pub LastRequestDecides : Type 0
LastRequestDecides =
    (before es : List Event) (q : ℕ) → list_any is_request es ≡ false
    → after_events (before ++ Requested q ∷ es) list.Stale ≡ since q es

-- a list that was not requested is stale
abbrev pub UnrequestedIsStale : Type 0
UnrequestedIsStale = (es : List Event) → list_any is_request es ≡ false → after_events es list.Stale ≡ list.Stale
