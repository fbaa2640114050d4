-- All that happened to a cache: what its table is by the whole of it.
use Rattle.std.specs.Prelude.{◌≡◌, ℕ, Bool, true, false, ◌==◌, if◌then◌else◌, List, [], ◌∷◌, ◌++◌, Option, None, Some}
use Rattle.std.specs.Prelude.{unwrap_or}
use Rattle.std.specs.List.{list_any}
use Rattle.std.specs.Str.{bytes_eq}
use Rattle.neli_session.specs.Freshness as freshness
use Rattle.neli_session.specs.declared.freshness.Freshness.TheVariants as list
use Rattle.neli_cache.specs.declared.keys.Keys.{Keys}
use Rattle.neli_cache.specs.Fold.{Answered, Ended, Event, Lost, Notified, Requested, after_events, folded}
use Rattle.neli_cache.specs.Fold.{is_current, start}
use Rattle.neli_cache.specs.Keys.{Said, said}

-- ---- the last message about an object

-- what a message says of the object with this key, if it is about it
abbrev pub said_of : List ℕ → Option Said → Option (Option (List ℕ))
said_of q None = None
said_of q (Some s) = if bytes_eq s.0 q then Some s.1 else None

abbrev pub later_or : {A : Type 0} → Option A → Option A → Option A
later_or (Some later) earlier = Some later
later_or None earlier = earlier

-- what the last message about it says, if one is
abbrev pub last_of : List ℕ → List (Option Said) → Option (Option (List ℕ))
last_of q [] = None
last_of q (s ∷ ss) = later_or (last_of q ss) (said_of q s)

-- ---- the messages of a history

abbrev pub is_request : Event → Bool
is_request (Requested number) = true
is_request e = false

-- what the answer to a number says, up to its end
abbrev pub answers_in : Keys → ℕ → List Event → List (Option Said)
answers_in ks n [] = []
answers_in ks n (Answered m ∷ es) =
    if n == m.0.sequence_number then said ks m ∷ answers_in ks n es else answers_in ks n es
answers_in ks n (Ended number v ∷ es) = if n == number then [] else answers_in ks n es
answers_in ks n (e ∷ es) = answers_in ks n es

-- what the notifications say
abbrev pub notifications_in : Keys → List Event → List (Option Said)
notifications_in ks [] = []
notifications_in ks (Notified m ∷ es) = said ks m ∷ notifications_in ks es
notifications_in ks (e ∷ es) = notifications_in ks es

-- what happened, as to a list that is read
abbrev pub list_events : List Event → List freshness.Event
list_events [] = []
list_events (Requested number ∷ es) = freshness.Requested number ∷ list_events es
list_events (Ended number v ∷ es) = freshness.Ended number v ∷ list_events es
list_events (Lost ∷ es) = freshness.Lost ∷ list_events es
list_events (e ∷ es) = list_events es

-- ---- the laws

-- folded messages leave of each object what the last one about it says
abbrev pub FoldIsTheLast : Type 0
FoldIsTheLast =
    (q : List ℕ) (ss : List (Option Said)) (o : Option (List ℕ)) → folded q ss o ≡ unwrap_or (last_of q ss) o

-- where a cache is current, its table is at each key what the dump that was requested last says of it, and then what
-- the notifications since that request say, however they came in between
abbrev pub CurrentIsTheFold : Type 0
CurrentIsTheFold =
    (ks : Keys) (q : List ℕ) (before es : List Event) (n : ℕ) → list_any is_request es ≡ false
    → is_current (after_events ks q (before ++ Requested n ∷ es) start).freshness ≡ true
    → (after_events ks q (before ++ Requested n ∷ es) start).now
    ≡ folded q (notifications_in ks es) (folded q (answers_in ks n es) None)

-- a cache is as fresh as the list that it reads
abbrev pub FreshAsItsList : Type 0
FreshAsItsList =
    (ks : Keys) (q : List ℕ) (es : List Event)
    → (after_events ks q es start).freshness ≡ freshness.after_events (list_events es) list.Stale
