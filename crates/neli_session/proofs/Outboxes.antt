-- The datagrams that wait: which numbers are in them, and what goes out.
use Rattle.std.proofs.Common.{ℕ, ◌≡◌, ◌+◌, ◌≤◌, Bool, true, false, ◌||◌, List, [], ◌∷◌, ◌++◌, length, Option, Some}
use Rattle.std.proofs.Common.{None, arith, refl, sym, subst, ap, ◌∙◌, eqb-true, eq-eqb}
use Rattle.std.specs.Prelude.{◌==◌, if◌then◌else◌, is_some}
use Rattle.neli_answers.specs.declared.answering.Answering.{Answering}
use Rattle.neli_session.specs.declared.entry.Entry.{Entry}
use Rattle.neli_session.specs.declared.request.Request.{Request}
use Rattle.neli_session.specs.Histories.{is_in}
use Rattle.neli_session.specs.Mails.{Mail, dumps_of, first_of, is_dump, may_go, next_mail, numbers_of, without_next}
use Rattle.neli_session.specs.Sends.{first_taken, with_entries, with_entry}
use Rattle.neli_session.specs.Sessions.{among, queued}
use Rattle.neli_session.proofs.Later.{has_dump, no-falsehood, no-truth}

-- ---- numbers in a list

pub in-either : (q : ℕ) (ns ms : List ℕ) → is_in q (ns ++ ms) ≡ (is_in q ns || is_in q ms)
in-either q [] ms = refl
in-either q (n ∷ ns) ms = go (n == q) (in-either q ns ms)
  where
    go : (b : Bool) → is_in q (ns ++ ms) ≡ (is_in q ns || is_in q ms)
        → (b || is_in q (ns ++ ms)) ≡ ((b || is_in q ns) || is_in q ms)
    go true more = refl
    go false more = more

-- what happens to others is nothing
pub among-others : (f : Option Request → Option Request) (q : ℕ) (ns : List ℕ) (o : Option Request) → is_in q ns ≡ false
    → among ns f q o ≡ o
among-others f q [] o out = refl
among-others f q (n ∷ ns) o out = go (n == q) out (among-others f q ns o)
  where
    go : (b : Bool) → (b || is_in q ns) ≡ false → (is_in q ns ≡ false → among ns f q o ≡ o)
        → among ns f q (if b then f o else o) ≡ o
    go true h more = no-falsehood h
    go false h more = more h

-- what it does not change stays
pub among-fixed : (f : Option Request → Option Request) (q : ℕ) (ns : List ℕ) (o : Option Request) → f o ≡ o
    → among ns f q o ≡ o
among-fixed f q [] o is = refl
among-fixed f q (n ∷ ns) o is = go (n == q) (among-fixed f q ns o is)
  where
    go : (b : Bool) → among ns f q o ≡ o → among ns f q (if b then f o else o) ≡ o
    go true more = ap (λ (p : Option Request). among ns f q p) is ∙ more
    go false more = more

-- what twice is as once happens once
pub among-once : (f : Option Request → Option Request) (q : ℕ) (ns : List ℕ) (o : Option Request) → f (f o) ≡ f o
    → is_in q ns ≡ true → among ns f q o ≡ f o
among-once f q [] o is inside = no-truth inside
among-once f q (n ∷ ns) o is inside = go (n == q) inside (among-once f q ns o is)
  where
    go : (b : Bool) → (b || is_in q ns) ≡ true → (is_in q ns ≡ true → among ns f q o ≡ f o)
        → among ns f q (if b then f o else o) ≡ f o
    go true h more = among-fixed f q ns (f o) is
    go false h more = more h

-- a test that its result never passes is passed by none of these
pub among-fails : (P : Option Request → Bool) (f : Option Request → Option Request)
    → ((o : Option Request) → P (f o) ≡ false) → (q : ℕ) (ns : List ℕ) (o : Option Request)
    → ((P o ≡ true) → is_in q ns ≡ true) → P (among ns f q o) ≡ false
among-fails P f never q [] o when = go (P o) refl
  where
    go : (b : Bool) → P o ≡ b → P o ≡ false
    go true is = no-truth (when is)
    go false is = is
among-fails P f never q (n ∷ ns) o when = go (n == q) when (among-fails P f never q ns)
  where
    go : (b : Bool) → ((P o ≡ true) → (b || is_in q ns) ≡ true)
        → ((p : Option Request) → ((P p ≡ true) → is_in q ns ≡ true) → P (among ns f q p) ≡ false)
        → P (among ns f q (if b then f o else o)) ≡ false
    go true h more = more (f o) (λ is. no-truth (sym (never o) ∙ is))
    go false h more = more o h

-- ---- numbers in datagrams

-- one, if it is in this one
abbrev pub times_in : ℕ → Mail → ℕ
times_in q p = if is_in q p.numbers then 1 else 0

-- in how many of them it is
abbrev pub times_among : ℕ → List Mail → ℕ
times_among q [] = 0
times_among q (p ∷ ps) = times_in q p + times_among q ps

pub times-more : (q : ℕ) (ps : List Mail) (p : Mail) → times_among q (ps ++ p ∷ []) ≡ times_among q ps + times_in q p
times-more q [] p = omega arith
times-more q (r ∷ ps) p = let more = times-more q ps p in omega (arith, more)

-- of its requests its dump is answered by one, and no other is
pub record IsMarked (requests : ℕ → Option Request) (p : Mail) : Type 0 where
  pub only : (q : ℕ) → is_in q p.numbers ≡ true → has_dump (requests q) ≡ true → p.dump ≡ Some q
  pub carries : (q : ℕ) → p.dump ≡ Some q → (is_in q p.numbers ≡ true) × (has_dump (requests q) ≡ true)

abbrev pub AreMarked : (ℕ → Option Request) → List Mail → Type 0
AreMarked requests [] = Unit {0}
AreMarked requests (p ∷ ps) = IsMarked requests p × AreMarked requests ps

-- where the same of those in them are answered by dumps
pub still-marked : (f g : ℕ → Option Request) (ps : List Mail)
    → ((q : ℕ) → 1 ≤ times_among q ps → has_dump (g q) ≡ true → has_dump (f q) ≡ true)
    → ((q : ℕ) → 1 ≤ times_among q ps → has_dump (f q) ≡ true → has_dump (g q) ≡ true) → AreMarked f ps → AreMarked g ps
still-marked f g [] by to marked = tt
still-marked f g (p ∷ ps) by to (one, others) = (
  record {
    only = λ q inside dump. one.only q inside (by q (within q inside) dump);
    carries = λ q is. let had = one.carries q is in (had.0, to q (within q had.0) had.1);
  },
  still-marked f g ps (λ q more dump. by q (later q more) dump) (λ q more dump. to q (later q more) dump) others,
)
  where
    within : (q : ℕ) → is_in q p.numbers ≡ true → 1 ≤ times_in q p + times_among q ps
    within q inside = rw inside (omega arith)

    later : (q : ℕ) → 1 ≤ times_among q ps → 1 ≤ times_in q p + times_among q ps
    later q more = omega (arith, more)

pub marked-more : (f : ℕ → Option Request) (ps : List Mail) (p : Mail) → AreMarked f ps → IsMarked f p
    → AreMarked f (ps ++ p ∷ [])
marked-more f [] p marked one = (one, tt)
marked-more f (r ∷ ps) p (first, others) one = (first, marked-more f ps p others one)

-- ---- what goes out

pub same-mail : (p r : Mail) → Some p ≡ Some r → p ≡ r
same-mail p r h = cc

module _ (runs : Bool) where
  -- it may
  pub next-may : (ps : List Mail) (p : Mail) → next_mail runs ps ≡ Some p → may_go runs p ≡ true
  next-may [] p is = cc
  next-may (r ∷ ps) p is = go (may_go runs r) refl is (next-may ps p)
    where
      go : (b : Bool) → may_go runs r ≡ b → (if b then Some r else next_mail runs ps) ≡ Some p
          → (next_mail runs ps ≡ Some p → may_go runs p ≡ true) → may_go runs p ≡ true
      go true may h more = subst (λ (x : Mail). may_go runs x ≡ true) (same-mail r p h) may
      go false may h more = more h

  -- it and the others were those that waited
  pub next-times : (q : ℕ) (ps : List Mail) (p : Mail) → next_mail runs ps ≡ Some p
      → times_among q ps ≡ times_in q p + times_among q (without_next runs ps)
  next-times q [] p is = cc
  next-times q (r ∷ ps) p is = go (may_go runs r) is (next-times q ps p)
    where
      go : (b : Bool) → (if b then Some r else next_mail runs ps) ≡ Some p
          → (next_mail runs ps ≡ Some p → times_among q ps ≡ times_in q p + times_among q (without_next runs ps))
          → times_in q r + times_among q ps ≡ times_in q p + times_among q (if b then ps else r ∷ without_next runs ps)
      go true h more = ap (λ (x : Mail). times_in q x + times_among q ps) (same-mail r p h)
      go false h more =
          let later : times_among q ps ≡ times_in q p + times_among q (without_next runs ps) = more h in
          omega (arith, later)

  pub next-marked : (f : ℕ → Option Request) (ps : List Mail) (p : Mail) → next_mail runs ps ≡ Some p → AreMarked f ps
      → IsMarked f p × AreMarked f (without_next runs ps)
  next-marked f [] p is marked = cc
  next-marked f (r ∷ ps) p is (first, others) = go (may_go runs r) is (λ h. next-marked f ps p h others)
    where
      go : (b : Bool) → (if b then Some r else next_mail runs ps) ≡ Some p
          → (next_mail runs ps ≡ Some p → IsMarked f p × AreMarked f (without_next runs ps))
          → IsMarked f p × AreMarked f (if b then ps else r ∷ without_next runs ps)
      go true h more = (subst (λ (x : Mail). IsMarked f x) (same-mail r p h) first, others)
      go false h more = ((more h).0, (first, (more h).1))

-- ---- requests that are added

-- a number in use is none of theirs
pub taken-out : (f : ℕ → Option Request) (es : List Entry) (q : ℕ) → first_taken f es ≡ None → is_some (f q) ≡ true
    → is_in q (numbers_of es) ≡ false
taken-out f [] q free used = refl
taken-out f (e ∷ es) q free used = go (e.number == q) refl (is_some (f e.number)) refl free
    (taken-out (λ n. with_entry e n (f n)) es q)
  where
    go : (b : Bool) → (e.number == q) ≡ b → (c : Bool) → is_some (f e.number) ≡ c
        → (if c then Some e.number else first_taken (λ n. with_entry e n (f n)) es) ≡ None
        → (first_taken (λ n. with_entry e n (f n)) es ≡ None → is_some (with_entry e q (f q)) ≡ true
        → is_in q (numbers_of es) ≡ false)
        → (b || is_in q (numbers_of es)) ≡ false
    go b same true taken h more = cc
    go true same false taken h more =
        no-truth (sym taken ∙ ap (λ (n : ℕ). is_some (f n)) (eqb-true e.number q same) ∙ used)
    go false same false taken h more = more h
        (ap (λ (b : Bool). is_some (if b then Some (queued e.answering e.echoes) else f q)) same ∙ used)

-- others stay
pub entries-others : (es : List Entry) (q : ℕ) (o : Option Request) → is_in q (numbers_of es) ≡ false
    → with_entries es q o ≡ o
entries-others [] q o out = refl
entries-others (e ∷ es) q o out = go (e.number == q) out (entries-others es q o)
  where
    go : (b : Bool) → (b || is_in q (numbers_of es)) ≡ false
        → (is_in q (numbers_of es) ≡ false → with_entries es q o ≡ o)
        → with_entries es q (if b then Some (queued e.answering e.echoes) else o) ≡ o
    go true h more = no-falsehood h
    go false h more = more h

-- it is queued, answered so
pub record IsAdded (es : List Entry) (q : ℕ) (o o' : Option Request) : Type 0 where
  pub answering : Answering
  pub echoes : Bool
  pub was : o ≡ None
  pub is : o' ≡ Some (queued answering echoes)
  pub dump : is_dump answering ≡ true → is_in q (dumps_of es) ≡ true

pub entries-added : (f : ℕ → Option Request) (es : List Entry) (q : ℕ) → first_taken f es ≡ None
    → is_in q (numbers_of es) ≡ true → IsAdded es q (f q) (with_entries es q (f q))
entries-added f [] q free inside = no-truth inside
entries-added f (e ∷ es) q free inside = go (e.number == q) refl (is_some (f e.number)) refl free inside
    (entries-added (λ n. with_entry e n (f n)) es q)
  where
    none : (o : Option Request) → is_some o ≡ false → o ≡ None
    none None h = refl
    none (Some r) h = no-falsehood h

    first-dump : (b : Bool) → (e.number == q) ≡ true → b ≡ true
        → is_in q (if b then e.number ∷ dumps_of es else dumps_of es) ≡ true
    first-dump true same h = ap (λ (c : Bool). c || is_in q (dumps_of es)) same
    first-dump false same h = no-truth h

    later-dump : (b : Bool) → is_in q (dumps_of es) ≡ true
        → is_in q (if b then e.number ∷ dumps_of es else dumps_of es) ≡ true
    later-dump true h = rw h (or-true (e.number == q))
      where
        or-true : (c : Bool) → (c || true) ≡ true
        or-true true = refl
        or-true false = refl
    later-dump false h = h

    more : (o o' : Option Request) → IsAdded es q o o' → IsAdded (e ∷ es) q o o'
    more o o' added = record {
      answering = added.answering;
      echoes = added.echoes;
      was = added.was;
      is = added.is;
      dump = λ h. later-dump (is_dump e.answering) (added.dump h);
    }

    go : (b : Bool) → (e.number == q) ≡ b → (c : Bool) → is_some (f e.number) ≡ c
        → (if c then Some e.number else first_taken (λ n. with_entry e n (f n)) es) ≡ None
        → (b || is_in q (numbers_of es)) ≡ true
        → (first_taken (λ n. with_entry e n (f n)) es ≡ None → is_in q (numbers_of es) ≡ true
        → IsAdded es q (with_entry e q (f q)) (with_entries es q (with_entry e q (f q))))
        → IsAdded (e ∷ es) q (f q) (with_entries es q (if b then Some (queued e.answering e.echoes) else f q))
    go b same true taken h inside rest = cc
    go true same false taken h inside rest = record {
      answering = e.answering;
      echoes = e.echoes;
      was = ap (λ (n : ℕ). f n) (sym (eqb-true e.number q same)) ∙ none (f e.number) taken;
      is = entries-others es q (Some (queued e.answering e.echoes))
          (taken-out (λ n. with_entry e n (f n)) es q h
          (ap (λ (b : Bool). is_some (if b then Some (queued e.answering e.echoes) else f q)) same));
      dump = λ d. first-dump (is_dump e.answering) same d;
    }
    go false same false taken h inside rest = more (f q) (with_entries es q (f q))
        (subst (λ (o : Option Request). IsAdded es q o (with_entries es q o))
        (ap (λ (b : Bool). if b then Some (queued e.answering e.echoes) else f q) same) (rest h inside))

-- the request with the number n is one of these, and answered by a dump
abbrev IsDumped : (ℕ → Option Request) → Entry → List Entry → ℕ → Type 0
IsDumped f e es n = (((e.number == n) || is_in n (numbers_of es)) ≡ true)
    × (has_dump (with_entries es n (with_entry e n (f n))) ≡ true)

same-number : (n q : ℕ) → Some n ≡ Some q → n ≡ q
same-number n q h = cc

-- the first dump of these is one of them, and is answered by one
pub dump-added : (f : ℕ → Option Request) (es : List Entry) (q : ℕ) → first_taken f es ≡ None
    → first_of (dumps_of es) ≡ Some q
    → (is_in q (numbers_of es) ≡ true) × (has_dump (with_entries es q (f q)) ≡ true)
dump-added f [] q free is = cc
dump-added f (e ∷ es) q free is = go (is_dump e.answering) refl (is_some (f e.number)) free is
    (dump-added (λ n. with_entry e n (f n)) es q)
  where
    or-true : (c : Bool) → (c || true) ≡ true
    or-true true = refl
    or-true false = refl

    own : with_entry e e.number (f e.number) ≡ Some (queued e.answering e.echoes)
    own = ap (λ (b : Bool). if b then Some (queued e.answering e.echoes) else f e.number)
        (eq-eqb e.number e.number refl)

    go : (d : Bool) → is_dump e.answering ≡ d → (c : Bool)
        → (if c then Some e.number else first_taken (λ n. with_entry e n (f n)) es) ≡ None
        → first_of (if d then e.number ∷ dumps_of es else dumps_of es) ≡ Some q
        → (first_taken (λ n. with_entry e n (f n)) es ≡ None → first_of (dumps_of es) ≡ Some q
        → (is_in q (numbers_of es) ≡ true) × (has_dump (with_entries es q (with_entry e q (f q))) ≡ true))
        → IsDumped f e es q
    go d dump true h is more = cc
    go true dump false h is more = subst (λ (n : ℕ). IsDumped f e es n) (same-number e.number q is) (
      ap (λ (b : Bool). b || is_in e.number (numbers_of es)) (eq-eqb e.number e.number refl),
      ap has_dump (entries-others es e.number (with_entry e e.number (f e.number))
          (taken-out (λ n. with_entry e n (f n)) es e.number h (ap (λ (o : Option Request). is_some o) own)) ∙ own)
          ∙ dump,
    )
    go false dump false h is more = (
      ap (λ (b : Bool). (e.number == q) || b) (more h is).0 ∙ or-true (e.number == q),
      (more h is).1,
    )

-- of one dump at most the first is each
pub only-dump : (q : ℕ) (ns : List ℕ) → length ns ≤ 1 → is_in q ns ≡ true → first_of ns ≡ Some q
only-dump q [] short inside = no-truth inside
only-dump q (n ∷ []) short inside = ap (λ (m : ℕ). Some m) (eqb-true n q (alone (n == q) inside))
  where
    alone : (b : Bool) → (b || false) ≡ true → b ≡ true
    alone true h = refl
    alone false h = h
only-dump q (n ∷ m ∷ ns) short inside = elim (let no : ⊥ = omega (arith, short) in no) [ ]
