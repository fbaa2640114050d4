-- What a table is by whole lists of messages, and what each call of a cache changes at each key.
use Rattle.std.specs.Prelude.{ℕ, Bool, true, false, ◌||◌, ◌&&◌, ◌==◌, if◌then◌else◌, is_some}
use Rattle.std.specs.Prelude.{List, [], ◌∷◌, Option, None, Some}
use Rattle.std.specs.Str.{bytes_eq}
use Rattle.neli_lent.specs.Messages.{Lent}
use Rattle.neli_session.specs.declared.freshness.Freshness.{Freshness}
use Rattle.neli_session.specs.declared.freshness.Freshness.TheVariants as list
use Rattle.neli_session.specs.declared.request.Verdict.{Verdict}
use Rattle.neli_session.specs.Freshness.{judged}
use Rattle.neli_cache.specs.declared.cache.Cache.{Cache}
use Rattle.neli_cache.specs.declared.change.Change.{Change}
use Rattle.neli_cache.specs.declared.keys.Keys.{Keys}
use Rattle.neli_cache.specs.Changes.{change_of}
use Rattle.neli_cache.specs.Keys.{Said, said}
use Rattle.neli_cache.specs.Tables.{Objects, at, put_at}

-- ---- a list of messages, folded by key

-- what is at a key after a message
abbrev pub after_said : List ℕ → Option Said → Option (List ℕ) → Option (List ℕ)
after_said q None o = o
after_said q (Some s) o = put_at s.0 s.1 q o

-- and after each of a list: the last message about it says what is there
abbrev pub folded : List ℕ → List (Option Said) → Option (List ℕ) → Option (List ℕ)
folded q [] o = o
folded q (s ∷ ss) o = folded q ss (after_said q s o)

-- a message is about the object with this key
abbrev pub is_about : List ℕ → Option Said → Bool
is_about q None = false
is_about q (Some s) = bytes_eq s.0 q

-- what becomes of the object that a message is about
abbrev pub change_by : Option Said → Objects → Option Change
change_by None t = None
change_by (Some s) t = change_of (at s.0 t) s.1

-- ---- a cache at one key, and what happens to it

-- whether the cache is current; what is in the table; what is there by the dump that is read, and the notifications
-- since its request; and whether one of these was about it
pub record Seen : Type 0 where
  pub freshness : Freshness
  pub now : Option (List ℕ)
  pub next : Option (List ℕ)
  pub is_heard : Bool

abbrev pub seen_at : List ℕ → Cache → Seen
seen_at q c = record {
  freshness = c.freshness;
  now = at q c.objects;
  next = at q c.next;
  is_heard = is_some (at q c.heard);
}

-- stale and empty
abbrev pub start : Seen
start = record { freshness = list.Stale; now = None; next = None; is_heard = false }

-- the dump was requested with this number; a message of an answer and a notification were taken in; the answer to a
-- number has ended, with this verdict; something was lost, or memory ran out
pub data Event : Type 0 where
  Requested : ℕ → Event
  Answered : Lent ℕ → Event
  Notified : Lent ℕ → Event
  Ended : ℕ → Verdict → Event
  Lost : Event

-- nothing is read any more
abbrev pub unread : Freshness → Option (List ℕ) → Seen
unread f now = record { freshness = f; now = now; next = None; is_heard = false }

abbrev pub is_current : Freshness → Bool
is_current list.Current = true
is_current f = false

-- while the dump with the first number is read, the answer to the second has ended: what was read counts, if it is
-- current now
abbrev pub ended_at : ℕ → ℕ → Verdict → Seen → Seen
ended_at own number v a =
    if own == number then unread (judged v) (if is_current (judged v) then a.next else a.now) else a

-- while the dump with the first number is read, a message of the answer to the second was taken in
abbrev pub answered_at : List ℕ → ℕ → ℕ → Option Said → Seen → Seen
answered_at q own number s a =
    if own == number then record a { next = if a.is_heard then a.next else after_said q s a.next } else a

abbrev pub notified_at : List ℕ → Freshness → Option Said → Seen → Seen
notified_at q list.Current s a = record a { now = after_said q s a.now }
notified_at q (list.Read own) s a = record a { next = after_said q s a.next; is_heard = is_about q s || a.is_heard }
notified_at q list.Stale s a = a

abbrev pub answered_in : List ℕ → Freshness → ℕ → Option Said → Seen → Seen
answered_in q (list.Read own) number s a = answered_at q own number s a
answered_in q f number s a = a

abbrev pub ended_in : Freshness → ℕ → Verdict → Seen → Seen
ended_in (list.Read own) number v a = ended_at own number v a
ended_in f number v a = a

-- a cache with these keys, at one of them, after it
abbrev pub after_event : Keys → List ℕ → Event → Seen → Seen
after_event ks q (Requested number) a = unread (list.Read number) a.now
after_event ks q (Answered m) a = answered_in q a.freshness m.0.sequence_number (said ks m) a
after_event ks q (Notified m) a = notified_at q a.freshness (said ks m) a
after_event ks q (Ended number v) a = ended_in a.freshness number v a
after_event ks q Lost a = unread list.Stale a.now

abbrev pub after_events : Keys → List ℕ → List Event → Seen → Seen
after_events ks q [] a = a
after_events ks q (e ∷ es) a = after_events ks q es (after_event ks q e a)

-- what a notification changes in the table: nothing where the cache is not current
abbrev pub change_when : Freshness → Option Said → Objects → Option Change
change_when list.Current s t = change_by s t
change_when f s t = None

-- the end of this answer replaces the table
abbrev pub is_replaced : ℕ → Verdict → Freshness → Bool
is_replaced number v (list.Read own) = (own == number) && is_current (judged v)
is_replaced number v f = false
