-- The line of the requests that have something to read.
use Rattle.std.proofs.Common.{ℕ, ◌+◌, ◌<◌, ◌≡◌, Bool, true, false, List, [], ◌∷◌, ◌++◌, length, drop, Option, Some, None, Result, Ok, Err, OnErr, refl, sym, ap, subst, ◌∙◌}
use Rattle.std.proofs.lemmas.Bool.{eqb-true}
use Rattle.std.proofs.lemmas.List.{drop_more}
use Rattle.std.specs.Prelude.{is_some, slice_index, not, ◌==◌, ◌&&◌, ◌||◌, if◌then◌else◌}
use Rattle.neli_lent.specs.Messages.{Lent}
use Rattle.neli_session.specs.declared.entry.Entry.{Entry}
use Rattle.neli_session.specs.declared.line.Line.{Line}
use Rattle.neli_session.specs.declared.line.Link.{Link}
use Rattle.neli_session.specs.declared.line.Place.{Place}
use Rattle.neli_session.specs.declared.request.Request.{Request}
use Rattle.neli_session.specs.declared.turn.Turn.{Turn}
use Rattle.neli_session.specs.Lines.{IsLine, SameLinks, SameRequests, Stand, StaysInLine, has_place, is_in, order_of, without}
use Rattle.neli_session.specs.Readiness.{AreAway, AreInLine, IsTurn, Reads, Shifts, line_after, line_after_all, line_among, read_in, ready_at, settled_in}
use Rattle.neli_session.specs.Requests.{is_over, next_item, of_number, place_of}
use Rattle.neli_session.specs.Sessions.{after, after_all, among, has_ended, kept, takes}
use Rattle.neli_session.proofs.Lines.{in-both, itself, part-there, row-walk, same-line, without-none}

-- ---- who stands in a line after one has joined or left

pub out-without : (n : ℕ) (ns : List ℕ) → is_in n (without n ns) ≡ false
out-without n [] = refl
out-without n (m ∷ ms) = go (m == n) refl (out-without n ms)
  where
    go : (b : Bool) → (m == n) ≡ b → is_in n (without n ms) ≡ false → is_in n (if b then without n ms else m ∷ without n ms) ≡ false
    go true e out = out
    go false e out = ap (λ (b : Bool). b || is_in n (without n ms)) e ∙ out

pub in-without : (q n : ℕ) (ns : List ℕ) → (n == q) ≡ false → is_in q (without n ns) ≡ is_in q ns
in-without q n [] apart = refl
in-without q n (m ∷ ms) apart = go (m == n) refl (in-without q n ms apart)
  where
    go : (b : Bool) → (m == n) ≡ b → is_in q (without n ms) ≡ is_in q ms
        → is_in q (if b then without n ms else m ∷ without n ms) ≡ is_in q (m ∷ ms)
    go true e rest = rest ∙ sym (ap (λ (b : Bool). b || is_in q ms) (subst (λ (k : ℕ). (k == q) ≡ false) (sym (eqb-true m n e)) apart))
    go false e rest = ap (λ (b : Bool). (m == q) || b) rest

either-way : (b : Bool) → (b || false) ≡ b
either-way true = refl
either-way false = refl

more-in : (q n : ℕ) (ns : List ℕ) → (n == q) ≡ false → is_in q (ns ++ n ∷ []) ≡ is_in q ns
more-in q n ns apart = in-both q ns (n ∷ []) ∙ ap (λ (b : Bool). is_in q ns || (b || false)) apart ∙ either-way (is_in q ns)

itself-in : (n : ℕ) (ns : List ℕ) → is_in n (ns ++ n ∷ []) ≡ true
itself-in n ns = in-both n ns (n ∷ []) ∙ ap (λ (b : Bool). is_in n ns || (b || false)) (itself n) ∙ last (is_in n ns)
  where
    last : (b : Bool) → (b || true) ≡ true
    last true = refl
    last false = refl

pub own-settled : (b : Bool) (n : ℕ) (ns : List ℕ) → is_in n (settled_in b n ns) ≡ b
own-settled true n ns = go (is_in n ns) refl
  where
    go : (b : Bool) → is_in n ns ≡ b → is_in n (if b then ns else ns ++ n ∷ []) ≡ true
    go true e = e
    go false e = itself-in n ns
own-settled false n ns = out-without n ns

pub other-settled : (b : Bool) (q n : ℕ) (ns : List ℕ) → (n == q) ≡ false → is_in q (settled_in b n ns) ≡ is_in q ns
other-settled true q n ns apart = go (is_in n ns)
  where
    go : (b : Bool) → is_in q (if b then ns else ns ++ n ∷ []) ≡ is_in q ns
    go true = refl
    go false = more-in q n ns apart
other-settled false q n ns apart = in-without q n ns apart

pub own-read : (b : Bool) (n : ℕ) (ns : List ℕ) → is_in n (read_in b n ns) ≡ b
own-read true n ns = itself-in n (without n ns)
own-read false n ns = out-without n ns

pub other-read : (b : Bool) (q n : ℕ) (ns : List ℕ) → (n == q) ≡ false → is_in q (read_in b n ns) ≡ is_in q ns
other-read true q n ns apart = more-in q n (without n ns) apart ∙ in-without q n ns apart
other-read false q n ns apart = in-without q n ns apart

-- a number that stands in line, or not, stays as it is
pub settled-same : (b : Bool) (n : ℕ) (ns : List ℕ) → is_in n ns ≡ b → settled_in b n ns ≡ ns
settled-same true n ns e = ap (λ (b : Bool). if b then ns else ns ++ n ∷ []) e
settled-same false n ns e = without-none n ns e

pub settled-joins : (n : ℕ) (ns : List ℕ) → is_in n ns ≡ false → settled_in true n ns ≡ ns ++ n ∷ []
settled-joins n ns e = ap (λ (b : Bool). if b then ns else ns ++ n ∷ []) e

-- a number that left joins again, or does not
pub settled-read : (b : Bool) (n : ℕ) (ns : List ℕ) → settled_in b n (without n ns) ≡ read_in b n ns
settled-read true n ns = settled-joins n (without n ns) (out-without n ns)
settled-read false n ns = without-none n (without n ns) (out-without n ns)

-- ---- the line where requests and links stay

pub kept-there : (o : Option Request) → ready_at o ≡ true → is_some (kept o) ≡ true
kept-there None e = cc
kept-there (Some r) e = go r.is_open (is_over r.stage) e
  where
    go : (read over : Bool) → (read && (is_some (next_item r) || has_ended r)) ≡ true
        → is_some (if over && not read then None else Some r) ≡ true
    go true true e = refl
    go true false e = refl
    go false over e = cc

pub kept-ready : (o : Option Request) → ready_at (kept o) ≡ ready_at o
kept-ready None = refl
kept-ready (Some r) = go r.is_open (is_over r.stage) refl
  where
    go : (read over : Bool) → r.is_open ≡ read → ready_at (if over && not read then None else Some r) ≡ ready_at (Some r)
    go true true e = refl
    go true false e = refl
    go false true e = sym (ap (λ (b : Bool). b && (is_some (next_item r) || has_ended r)) e)
    go false false e = refl

-- who has a request has a link
pub linked-there : (q : ℕ) (es : List (ℕ × Place)) → has_place q es ≡ is_some (of_number q es)
linked-there q es =
    part-there (λ p. p.link) (place_of q es) ∙ sym (part-there (λ p. p.request) (place_of q es))

in-order : (l : Line) (ns : List ℕ) → Stand l ns → order_of l ≡ ns
in-order l ns stand = row-walk l.places.entries l.first l.last ns stand

stand-same : (l m : Line) (ns : List ℕ) → Stand l ns → SameLinks l.places.entries m.places.entries → m.first ≡ l.first
    → m.last ≡ l.last → Stand m ns
stand-same l m ns stand links first last =
    subst (λ (o : Option ℕ). IsLine m.places.entries o m.last ns) (sym first)
    (subst (λ (o : Option ℕ). IsLine m.places.entries l.first o ns) (sym last)
    (same-line l.places.entries m.places.entries l.first l.last ns (λ q e. links q) stand))

-- these numbers stand in line, so they are its order
pub seen : (l : Line) (ns : List ℕ) → AreInLine l ns → AreInLine l (order_of l) × (order_of l ≡ ns)
seen l ns is =
    let order = in-order l ns is.stand in
    (subst (λ (ms : List ℕ). AreInLine l ms) (sym order) is, order)

-- nothing has changed
pub in-line-same : (l m : Line) → AreInLine l (order_of l) → SameRequests l.places.entries m.places.entries
    → SameLinks l.places.entries m.places.entries → m.first ≡ l.first → m.last ≡ l.last
    → AreInLine m (order_of m) × (order_of m ≡ order_of l)
in-line-same l m before requests links first last = seen m (order_of l) (record {
  stand = stand-same l m (order_of l) before.stand links first last;
  ready = λ q. before.ready q ∙ ap (λ (o : Option Request). ready_at o) (sym (requests q));
})

-- what holds in any case holds after a refusal
pub refused : {X E P : Type 0} (r : Result X E) → P → OnErr r P
refused (Ok x) p = tt
refused (Err e) p = p

-- ---- the requests and the line after one of them has changed

module _ (l new : Line) (ms : List ℕ) (n : ℕ) where
  in-line-after : AreInLine l (order_of l) → Stand new ms
      → is_in n ms ≡ ready_at (of_number n new.places.entries)
      → ((q : ℕ) → (n == q) ≡ false → is_in q ms ≡ is_in q (order_of l))
      → ((q : ℕ) → (n == q) ≡ false → of_number q new.places.entries ≡ of_number q l.places.entries)
      → AreInLine new (order_of new) × (order_of new ≡ ms)
  in-line-after before stand own rest others = seen new ms (record {
    stand = stand;
    ready = λ q. go (n == q) q refl;
  })
    where
      go : (b : Bool) (q : ℕ) → (n == q) ≡ b → is_in q ms ≡ ready_at (of_number q new.places.entries)
      go true q e = subst (λ (k : ℕ). is_in k ms ≡ ready_at (of_number k new.places.entries)) (eqb-true n q e) own
      go false q e = rest q e ∙ before.ready q ∙ ap (λ (o : Option Request). ready_at o) (sym (others q e))

-- after a request that has nothing to read has come, or has gone
pub after-place : (l new : Line) (n : ℕ) → AreInLine l (order_of l) → StaysInLine n l new → is_in n (order_of l) ≡ false
    → ready_at (of_number n new.places.entries) ≡ false
    → ((q : ℕ) → (n == q) ≡ false → of_number q new.places.entries ≡ of_number q l.places.entries)
    → AreInLine new (order_of new) × (order_of new ≡ order_of l)
after-place l new n before stays out none others =
    in-line-after l new (order_of l) n before (stays (order_of l) before.stand out) (out ∙ sym none) (λ q e. refl) others

module _ (l m new : Line) (n : ℕ) (t : Turn) where
  -- after a change of a request, and of its place in line
  pub after-turn : AreInLine l (order_of l) → is_some (of_number n l.places.entries) ≡ true
      → IsTurn (of_number n l.places.entries) (of_number n m.places.entries) t
      → ((q : ℕ) → (n == q) ≡ false → of_number q m.places.entries ≡ of_number q l.places.entries)
      → SameLinks l.places.entries m.places.entries → m.first ≡ l.first → m.last ≡ l.last
      → Shifts n t.was_ready t.is_ready m new
      → of_number n new.places.entries ≡ kept (of_number n m.places.entries)
      → ((q : ℕ) → (n == q) ≡ false → of_number q new.places.entries ≡ of_number q m.places.entries)
      → AreInLine new (order_of new) × (order_of new ≡ settled_in t.is_ready n (order_of l))
  after-turn before there turn others links first last shifts own rest =
      in-line-after l new (settled_in t.is_ready n (order_of l)) n before
      (shifts (order_of l) (stand-same l m (order_of l) before.stand links first last) (before.ready n ∙ sym turn.was)
      (ap (λ (o : Option Link). is_some o) (links n) ∙ linked-there n l.places.entries ∙ there))
      (own-settled t.is_ready n (order_of l) ∙ turn.turned.is ∙ sym (kept-ready (of_number n m.places.entries))
      ∙ ap (λ (o : Option Request). ready_at o) (sym own))
      (λ q e. other-settled t.is_ready q n (order_of l) e)
      (λ q e. rest q e ∙ others q e)

  -- after a read
  pub after-read : AreInLine l (order_of l) → is_some (of_number n l.places.entries) ≡ true
      → IsTurn (of_number n l.places.entries) (of_number n m.places.entries) t
      → ((q : ℕ) → (n == q) ≡ false → of_number q m.places.entries ≡ of_number q l.places.entries)
      → SameLinks l.places.entries m.places.entries → m.first ≡ l.first → m.last ≡ l.last
      → Reads n t.was_ready t.is_ready m new
      → SameRequests m.places.entries new.places.entries
      → AreInLine new (order_of new) × (order_of new ≡ read_in t.is_ready n (order_of l))
  after-read before there turn others links first last reads same =
      in-line-after l new (read_in t.is_ready n (order_of l)) n before
      (reads (order_of l) (stand-same l m (order_of l) before.stand links first last) (before.ready n ∙ sym turn.was)
      (ap (λ (o : Option Link). is_some o) (links n) ∙ linked-there n l.places.entries ∙ there))
      (own-read t.is_ready n (order_of l) ∙ turn.turned.is ∙ ap (λ (o : Option Request). ready_at o) (sym (same n)))
      (λ q e. other-read t.is_ready q n (order_of l) e)
      (λ q e. same q ∙ others q e)

-- ---- the line where there is no such request

pub gone : (o : Option Request) → false ≡ is_some o → o ≡ None
gone None e = refl
gone (Some r) e = cc

pub none-in-line : (l : Line) (n : ℕ) → AreInLine l (order_of l) → of_number n l.places.entries ≡ None
    → without n (order_of l) ≡ order_of l
none-in-line l n before none =
    without-none n (order_of l) (before.ready n ∙ ap (λ (o : Option Request). ready_at o) none)

-- who takes a message is there
pub taken-there : (group : ℕ) (o : Option Request) → takes group o ≡ true → is_some o ≡ true
taken-there group None e = e
taken-there group (Some r) e = refl

-- ---- several requests

pub among-same : (ns : List ℕ) (f : Option Request → Option Request) (rs ss : ℕ → Option Request) (line : List ℕ)
    → ((q : ℕ) → rs q ≡ ss q) → line_among ns f rs line ≡ line_among ns f ss line
among-same [] f rs ss line same = refl
among-same (n ∷ ns) f rs ss line same =
    ap (λ (o : Option Request). line_among ns f (λ q. if n == q then f (rs q) else rs q) (settled_in (ready_at (f o)) n line)) (same n)
    ∙ among-same ns f (λ q. if n == q then f (rs q) else rs q) (λ q. if n == q then f (ss q) else ss q)
    (settled_in (ready_at (f (ss n))) n line) (λ q. ap (λ (o : Option Request). if n == q then f o else o) (same q))

-- one change more of those that are left
pub among-more : (ns : List ℕ) (i : ℕ) (f : Option Request → Option Request) (rs ss : ℕ → Option Request) (line next : List ℕ)
    → i < length ns → ((q : ℕ) → ss q ≡ (if slice_index ns i == q then f (rs q) else rs q))
    → next ≡ settled_in (ready_at (f (rs (slice_index ns i)))) (slice_index ns i) line
    → line_among (drop (i + 1) ns) f ss next ≡ line_among (drop i ns) f rs line
among-more ns i f rs ss line next more step settled =
    ap (λ (ms : List ℕ). line_among (drop (i + 1) ns) f ss ms) settled
    ∙ among-same (drop (i + 1) ns) f ss (λ q. if slice_index ns i == q then f (rs q) else rs q)
    (settled_in (ready_at (f (rs (slice_index ns i)))) (slice_index ns i) line) step
    ∙ ap (λ (ms : List ℕ). line_among ms f rs line) (sym (drop_more ns i 0 more))

pub among-requests : (ns : List ℕ) (i : ℕ) (f : Option Request → Option Request) (q : ℕ) (old new : Option Request)
    → i < length ns → new ≡ (if slice_index ns i == q then f old else old)
    → among (drop (i + 1) ns) f q new ≡ among (drop i ns) f q old
among-requests ns i f q old new more step =
    ap (λ (o : Option Request). among (drop (i + 1) ns) f q o) step
    ∙ ap (λ (ms : List ℕ). among ms f q old) (sym (drop_more ns i 0 more))

pub away-last : (es : List Entry) (e : Entry) (line : List ℕ) → AreAway es line → is_in e.number line ≡ false
    → AreAway (es ++ e ∷ []) line
away-last [] e line away out = (out, tt)
away-last (d ∷ es) e line away out = (away.0, away-last es e line away.1 out)

-- ---- a datagram

module _ (port group : ℕ) where
  pub line-last : (ms : List (Lent ℕ)) (m : Lent ℕ) (rs : ℕ → Option Request) (line : List ℕ)
      → line_after_all port group (ms ++ m ∷ []) rs line
      ≡ line_after port group m (λ q. after_all port group ms q (rs q)) (line_after_all port group ms rs line)
  line-last [] m rs line = refl
  line-last (n ∷ ms) m rs line =
      line-last ms m (λ q. after port group n q (rs q)) (line_after port group n rs line)

  -- the line depends on the request of a message alone
  line-own : (m : Lent ℕ) (f g : ℕ → Option Request) (line : List ℕ) → f m.0.sequence_number ≡ g m.0.sequence_number
      → line_after port group m f line ≡ line_after port group m g line
  line-own m f g line same = rw same refl

  pub line-more : (ms : List (Lent ℕ)) (m : Lent ℕ) (old now : ℕ → Option Request) (before line next : List ℕ)
      → ((q : ℕ) → now q ≡ after_all port group ms q (old q)) → line ≡ line_after_all port group ms old before
      → next ≡ line_after port group m now line → next ≡ line_after_all port group (ms ++ m ∷ []) old before
  line-more ms m old now before line next come so-far step =
      step ∙ line-own m now (λ q. after_all port group ms q (old q)) line (come m.0.sequence_number)
      ∙ ap (λ (ns : List ℕ). line_after port group m (λ q. after_all port group ms q (old q)) ns) so-far
      ∙ sym (line-last ms m old before)
