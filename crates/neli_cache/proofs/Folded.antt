-- Where a cache is current, its table is the fold of what came.
use Rattle.std.proofs.Common.{ℕ, ◌≡◌, Bool, true, false, ◌||◌, ◌==◌, if◌then◌else◌, List, [], ◌∷◌, ◌++◌, Option, Some, None}
use Rattle.std.proofs.Common.{refl, sym, ap, ◌∙◌, true≢false}
use Rattle.std.specs.Prelude.{unwrap_or}
use Rattle.std.specs.List.{list_any}
use Rattle.std.specs.Str.{bytes_eq}
use Rattle.neli_session.specs.Freshness as freshness
use Rattle.neli_session.specs.Freshness.{judged}
use Rattle.neli_session.specs.declared.freshness.Freshness.{Freshness}
use Rattle.neli_session.specs.declared.freshness.Freshness.TheVariants as list
use Rattle.neli_session.specs.declared.request.Verdict.{Verdict}
use Rattle.neli_session.specs.declared.request.Verdict.TheVariants as stands
use Rattle.neli_cache.specs.declared.keys.Keys.{Keys}
use Rattle.neli_cache.specs.Fold.{Answered, Ended, Event, Lost, Notified, Requested, Seen, after_event, after_events}
use Rattle.neli_cache.specs.Fold.{after_said, answered_in, ended_in, folded, is_about, is_current}
use Rattle.neli_cache.specs.Fold.{notified_at, unread}
use Rattle.neli_cache.specs.Histories.{answers_in, is_request, last_of, later_or, list_events, notifications_in, said_of}
use Rattle.neli_cache.specs.Keys.{Said, said}

-- ---- the last message

said-last : (q : List ℕ) (s : Option Said) (o : Option (List ℕ)) → after_said q s o ≡ unwrap_or (said_of q s) o
said-last q None o = refl
said-last q (Some s) o = go (bytes_eq s.0 q)
  where
    go : (b : Bool) → (if b then s.1 else o) ≡ unwrap_or (if b then Some s.1 else None) o
    go true = refl
    go false = refl

pub folded-last : (q : List ℕ) (ss : List (Option Said)) (o : Option (List ℕ))
    → folded q ss o ≡ unwrap_or (last_of q ss) o
folded-last q [] o = refl
folded-last q (s ∷ ss) o = folded-last q ss (after_said q s o) ∙ go (last_of q ss)
  where
    go : (l : Option (Option (List ℕ))) → unwrap_or l (after_said q s o) ≡ unwrap_or (later_or l (said_of q s)) o
    go None = said-last q s o
    go (Some x) = refl

-- ---- what a message leaves

about-none : (q : List ℕ) (s : Option Said) (o : Option (List ℕ)) → is_about q s ≡ false → after_said q s o ≡ o
about-none q None o is = refl
about-none q (Some s) o is = ap (λ (b : Bool). if b then s.1 else o) is

about-one : (q : List ℕ) (s : Option Said) (o p : Option (List ℕ)) → is_about q s ≡ true
    → after_said q s o ≡ after_said q s p
about-one q None o p is = absurd (true≢false (sym is))
about-one q (Some s) o p is = ap (λ (b : Bool). if b then s.1 else o) is
    ∙ sym (ap (λ (b : Bool). if b then s.1 else p) is)

-- ---- after the dump

module _ (ks : Keys) (q : List ℕ) where
  -- a stale cache is stale until it is requested
  pub stale-until : (es : List Event) (now next : Option (List ℕ)) (h : Bool) → list_any is_request es ≡ false
      → is_current (after_events ks q es
      (record { freshness = list.Stale; now = now; next = next; is_heard = h })).freshness
      ≡ false
  stale-until [] now next h none = refl
  stale-until (Requested n ∷ es) now next h none = absurd (true≢false none)
  stale-until (Answered m ∷ es) now next h none = stale-until es now next h none
  stale-until (Notified m ∷ es) now next h none = stale-until es now next h none
  stale-until (Ended n v ∷ es) now next h none = stale-until es now next h none
  stale-until (Lost ∷ es) now next h none = stale-until es now None false none

  -- a current one takes in the notifications
  pub current-until : (es : List Event) (now next : Option (List ℕ)) (h : Bool) → list_any is_request es ≡ false
      → is_current (after_events ks q es
      (record { freshness = list.Current; now = now; next = next; is_heard = h })).freshness
      ≡ true
      → (after_events ks q es (record { freshness = list.Current; now = now; next = next; is_heard = h })).now
      ≡ folded q (notifications_in ks es) now
  current-until [] now next h none is = refl
  current-until (Requested n ∷ es) now next h none is = absurd (true≢false none)
  current-until (Answered m ∷ es) now next h none is = current-until es now next h none is
  current-until (Notified m ∷ es) now next h none is = current-until es (after_said q (said ks m) now) next h none is
  current-until (Ended n v ∷ es) now next h none is = current-until es now next h none is
  current-until (Lost ∷ es) now next h none is = absurd (true≢false (sym is ∙ stale-until es now None false none))

  abbrev ended_as : Verdict → Option (List ℕ) → Option (List ℕ) → Seen
  ended_as v now next = unread (judged v) (if is_current (judged v) then next else now)

  -- the dump has ended
  ended-until : (v : Verdict) (es : List Event) (now next : Option (List ℕ)) → list_any is_request es ≡ false
      → is_current (after_events ks q es (ended_as v now next)).freshness ≡ true
      → (after_events ks q es (ended_as v now next)).now ≡ folded q (notifications_in ks es) next
  ended-until stands.Complete es now next none is = current-until es next None false none is
  ended-until stands.Pending es now next none is = absurd (true≢false (sym is ∙ stale-until es now None false none))
  ended-until stands.Interrupted es now next none is = absurd (true≢false (sym is ∙ stale-until es now None false none))
  ended-until (stands.Failed c) es now next none is = absurd (true≢false (sym is ∙ stale-until es now None false none))
  ended-until (stands.Lost l) es now next none is = absurd (true≢false (sym is ∙ stale-until es now None false none))
  ended-until stands.Unanswered es now next none is = absurd (true≢false (sym is ∙ stale-until es now None false none))

  -- ---- while the dump is read

  -- what the notifications so far make of an object: the same of each, once one was about it, and before nothing
  record IsOver (h : Bool) (over : Option (List ℕ) → Option (List ℕ)) : Type 0 where
    heard : h ≡ true → (o p : Option (List ℕ)) → over o ≡ over p
    unheard : h ≡ false → (o : Option (List ℕ)) → over o ≡ o

  over-none : IsOver false (λ o. o)
  over-none = record { heard = λ e. absurd (true≢false (sym e)); unheard = λ e o. refl }

  over-more : (s : Option Said) (h : Bool) (over : Option (List ℕ) → Option (List ℕ)) → IsOver h over
      → IsOver (is_about q s || h) (λ o. after_said q s (over o))
  over-more s h over i = go (is_about q s) refl h refl
    where
      go : (b : Bool) → is_about q s ≡ b → (g : Bool) → h ≡ g → IsOver (b || g) (λ o. after_said q s (over o))
      go true e g f = record {
        heard = λ k o p. about-one q s (over o) (over p) e;
        unheard = λ k. absurd (true≢false k);
      }
      go false e true f = record {
        heard = λ k o p. ap (after_said q s) (i.heard f o p);
        unheard = λ k. absurd (true≢false k);
      }
      go false e false f = record {
        heard = λ k. absurd (true≢false (sym k));
        unheard = λ k o. about-none q s (over o) e ∙ i.unheard f o;
      }

  -- a message of the dump goes below the notifications
  under : (s : Option Said) (h : Bool) (over : Option (List ℕ) → Option (List ℕ)) → IsOver h over
      → (a next : Option (List ℕ)) → next ≡ over a
      → (if h then next else after_said q s next) ≡ over (after_said q s a)
  under s h over i a next is = go h refl
    where
      go : (b : Bool) → h ≡ b → (if b then next else after_said q s next) ≡ over (after_said q s a)
      go true e = is ∙ i.heard e a (after_said q s a)
      go false e = ap (after_said q s) (is ∙ i.unheard e a) ∙ sym (i.unheard e (after_said q s a))

  module _ (n : ℕ) where
    abbrev reading : Option (List ℕ) → Option (List ℕ) → Bool → Seen
    reading now next h = record { freshness = list.Read n; now = now; next = next; is_heard = h }

    -- from here on, where the rest leads to a current cache, its table has this
    abbrev Leads : List Event → Seen → Option (List ℕ) → Type 0
    Leads es a o =
        is_current (after_events ks q es a).freshness ≡ true → (after_events ks q es a).now ≡ o

    either : (b : Bool) (es : List Event) (a b' : Seen) (o p : Option (List ℕ)) → Leads es a o → Leads es b' p
        → Leads es (if b then a else b') (if b then o else p)
    either true es a b' o p one other = one
    either false es a b' o p one other = other

    abbrev over_answers : List Event → (Option (List ℕ) → Option (List ℕ)) → List (Option Said) → Option (List ℕ)
        → Option (List ℕ)
    over_answers es over answers a = folded q (notifications_in ks es) (over (folded q answers a))

    chosen : (b : Bool) (es : List Event) (over : Option (List ℕ) → Option (List ℕ)) (a : Option (List ℕ))
        (one other : List (Option Said))
        → (if b then over_answers es over one a else over_answers es over other a)
        ≡ over_answers es over (if b then one else other) a
    chosen true es over a one other = refl
    chosen false es over a one other = refl

    read-until : (es : List Event) (now next : Option (List ℕ)) (h : Bool) (over : Option (List ℕ) → Option (List ℕ))
        (a : Option (List ℕ)) → IsOver h over → next ≡ over a → list_any is_request es ≡ false
        → Leads es (reading now next h) (over_answers es over (answers_in ks n es) a)
    read-until [] now next h over a i at none is = absurd (true≢false (sym is))
    read-until (Requested k ∷ es) now next h over a i at none is = absurd (true≢false none)
    read-until (Answered m ∷ es) now next h over a i at none is =
        either (n == m.0.sequence_number) es _ _ _ _
        (read-until es now (if h then next else after_said q (said ks m) next) h over
        (after_said q (said ks m) a) i (under (said ks m) h over i a next at) none)
        (read-until es now next h over a i at none) is
        ∙ chosen (n == m.0.sequence_number) es over a (said ks m ∷ answers_in ks n es) (answers_in ks n es)
    read-until (Notified m ∷ es) now next h over a i at none is =
        read-until es now (after_said q (said ks m) next) (is_about q (said ks m) || h)
        (λ o. after_said q (said ks m) (over o)) a (over-more (said ks m) h over i)
        (ap (after_said q (said ks m)) at) none is
    read-until (Ended k v ∷ es) now next h over a i at none is =
        either (n == k) es _ _ _ _
        (λ ended. ended-until v es now next none ended ∙ ap (folded q (notifications_in ks es)) at)
        (read-until es now next h over a i at none) is
        ∙ chosen (n == k) es over a [] (answers_in ks n es)
    read-until (Lost ∷ es) now next h over a i at none is =
        absurd (true≢false (sym is ∙ stale-until es now None false none))

    pub current-folded : (before es : List Event) (b : Seen) → list_any is_request es ≡ false
        → is_current (after_events ks q (before ++ Requested n ∷ es) b).freshness ≡ true
        → (after_events ks q (before ++ Requested n ∷ es) b).now
        ≡ folded q (notifications_in ks es) (folded q (answers_in ks n es) None)
    current-folded [] es b none is = read-until es b.now None false (λ o. o) None over-none refl none is
    current-folded (e ∷ before) es b none is = current-folded before es (after_event ks q e b) none is

  -- ---- the list that it reads

  answered-fresh : (f : Freshness) (number : ℕ) (s : Option Said) (a : Seen)
      → (answered_in q f number s a).freshness ≡ a.freshness
  answered-fresh list.Stale number s a = refl
  answered-fresh list.Current number s a = refl
  answered-fresh (list.Read own) number s a = go (own == number)
    where
      go : (b : Bool)
          → (if b then record a { next = if a.is_heard then a.next else after_said q s a.next } else a).freshness
          ≡ a.freshness
      go true = refl
      go false = refl

  notified-fresh : (f : Freshness) (s : Option Said) (a : Seen) → (notified_at q f s a).freshness ≡ a.freshness
  notified-fresh list.Stale s a = refl
  notified-fresh list.Current s a = refl
  notified-fresh (list.Read own) s a = refl

  ended-fresh : (f : Freshness) (n : ℕ) (v : Verdict) (a : Seen) → a.freshness ≡ f
      → (ended_in f n v a).freshness ≡ freshness.ended_as n v f
  ended-fresh list.Stale n v a is = is
  ended-fresh list.Current n v a is = is
  ended-fresh (list.Read own) n v a is = go (own == n)
    where
      go : (b : Bool) → (if b then ended_as v a.now a.next else a).freshness ≡ (if b then judged v else list.Read own)
      go true = refl
      go false = is

  pub as-its-list : (es : List Event) (a : Seen)
      → (after_events ks q es a).freshness ≡ freshness.after_events (list_events es) a.freshness
  as-its-list [] a = refl
  as-its-list (Requested n ∷ es) a = as-its-list es (after_event ks q (Requested n) a)
  as-its-list (Answered m ∷ es) a = as-its-list es (after_event ks q (Answered m) a)
      ∙ ap (freshness.after_events (list_events es)) (answered-fresh a.freshness m.0.sequence_number (said ks m) a)
  as-its-list (Notified m ∷ es) a = as-its-list es (after_event ks q (Notified m) a)
      ∙ ap (freshness.after_events (list_events es)) (notified-fresh a.freshness (said ks m) a)
  as-its-list (Ended n v ∷ es) a = as-its-list es (after_event ks q (Ended n v) a)
      ∙ ap (freshness.after_events (list_events es)) (ended-fresh a.freshness n v a refl)
  as-its-list (Lost ∷ es) a = as-its-list es (after_event ks q Lost a)
