-- Lines: one number more at the end, and one less anywhere.
use Rattle.std.proofs.Common.{ℕ, zero, suc, ◌≤◌, ◌≡◌, Bool, true, false, List, [], ◌∷◌, ◌++◌, length, Option, Some, None, refl, sym, ap, subst, ◌∙◌, arith}
use Rattle.std.proofs.lemmas.Bool.{eqb-true}
use Rattle.std.proofs.lemmas.Map.Steps.{length-le_from_keys}
use Rattle.std.specs.Cmp.{nat_eq_equiv}
use Rattle.std.specs.List.{IsDistinct, AllByRecursion, list_any}
use Rattle.std.specs.Option.{option_map}
use Rattle.std.specs.Prelude.{nat_eq, is_some, ◌==◌, ◌||◌, if◌then◌else◌}
use Rattle.neli_session.specs.declared.line.Link.{Link}
use Rattle.neli_session.specs.declared.line.Place.{Place}
use Rattle.neli_session.specs.Requests.{place_of}
use Rattle.neli_session.specs.Lines.{AreApart, AreLinked, IsLine, end_with, first_in, has_place, is_in, last_after, last_in, link_at, link_if}
use Rattle.neli_session.specs.Lines.{link_of, next_by, walk, with_after, with_before, without}

-- ---- numbers apart

pub itself : (n : ℕ) → (n == n) ≡ true
itself n = grind arith

pub differ : (p q : ℕ) (ns : List ℕ) → is_in p ns ≡ false → is_in q ns ≡ true → (p == q) ≡ false
differ p q ns out within = go (p == q) refl
  where
    go : (b : Bool) → (p == q) ≡ b → (p == q) ≡ false
    go false e = e
    go true e = let same : p ≡ q = eqb-true p q e in let within' = rw (← same) at within in cc

pub other-way : (p q : ℕ) → (p == q) ≡ false → (q == p) ≡ false
other-way p q e = grind arith

-- the parts of an alternative that does not hold
pub neither : (a b : Bool) → (a || b) ≡ false → (a ≡ false) × (b ≡ false)
neither true b e = cc
neither false b e = (refl, e)

-- a number of the front, or of the rest
in-front : (q : ℕ) (ps ys : List ℕ) → is_in q ps ≡ true → is_in q (ps ++ ys) ≡ true
in-front q [] ys e = cc
in-front q (p ∷ ps) ys e = go (p == q) (in-front q ps ys) e
  where
    go : (b : Bool) → (is_in q ps ≡ true → is_in q (ps ++ ys) ≡ true) → (b || is_in q ps) ≡ true → (b || is_in q (ps ++ ys)) ≡ true
    go true rest e = refl
    go false rest e = rest e

pub not-in-either : (q : ℕ) (ps ys : List ℕ) → is_in q (ps ++ ys) ≡ false → (is_in q ps ≡ false) × (is_in q ys ≡ false)
not-in-either q [] ys e = (refl, e)
not-in-either q (p ∷ ps) ys e =
    let parts = neither (p == q) (is_in q (ps ++ ys)) e in
    let rest = not-in-either q ps ys parts.1 in
    (ap (λ (b : Bool). b || is_in q ps) parts.0 ∙ rest.0, rest.1)

pub in-both : (q : ℕ) (ps ys : List ℕ) → is_in q (ps ++ ys) ≡ (is_in q ps || is_in q ys)
in-both q [] ys = refl
in-both q (p ∷ ps) ys = go (p == q) (in-both q ps ys)
  where
    go : (b : Bool) → is_in q (ps ++ ys) ≡ (is_in q ps || is_in q ys) → (b || is_in q (ps ++ ys)) ≡ ((b || is_in q ps) || is_in q ys)
    go true e = refl
    go false e = e

last-stands : (m : ℕ) (ns : List ℕ) (l : ℕ) → last_after (Some m) ns ≡ Some l → is_in l (m ∷ ns) ≡ true
last-stands m [] l e = let same : m ≡ l = cc in subst (λ (k : ℕ). is_in k (m ∷ []) ≡ true) same (ap (λ (b : Bool). b || false) (itself m))
last-stands m (n ∷ ns) l e = go (m == l) (last-stands n ns l e)
  where
    go : (b : Bool) → is_in l (n ∷ ns) ≡ true → (b || is_in l (n ∷ ns)) ≡ true
    go true e = refl
    go false e = e

-- ---- the walk along a line

walk_linked : (links : List (ℕ × Place)) (before : Option ℕ) (ns : List ℕ) (k : ℕ) → AreLinked links before ns → length ns ≤ k
    → walk links k (first_in ns) ≡ ns
walk_linked links before [] zero linked fits = refl
walk_linked links before [] (suc k) linked fits = refl
walk_linked links before (n ∷ ns) zero linked fits = absurd (omega (arith, fits))
walk_linked links before (n ∷ ns) (suc k) linked fits =
    let fits' : length ns ≤ k = omega (arith, fits) in
    ap (λ (ms : List ℕ). n ∷ ms)
    (ap (λ (o : Option Link). walk links k (next_by o)) linked.0 ∙ walk_linked links (Some n) ns k linked.1 fits')

-- each number of a line has a place
pub placed : (links : List (ℕ × Place)) (before : Option ℕ) (ns : List ℕ) (q : ℕ) → AreLinked links before ns → is_in q ns ≡ true
    → has_place q links ≡ true
placed links before [] q linked e = cc
placed links before (n ∷ ns) q linked e = go (n == q) refl (placed links (Some n) ns q linked.1) e
  where
    go : (b : Bool) → (n == q) ≡ b → (is_in q ns ≡ true → has_place q links ≡ true) → (b || is_in q ns) ≡ true
        → has_place q links ≡ true
    go true same rest e = subst (λ (k : ℕ). has_place k links ≡ true) (eqb-true n q same)
        (ap (λ (o : Option Link). is_some o) linked.0)
    go false other rest e = rest e

one-way : (q n : ℕ) → nat_eq q n ≡ (n == q)
one-way q n = grind arith

is_in-any : (q : ℕ) (ns : List ℕ) → list_any (nat_eq q) ns ≡ is_in q ns
is_in-any q [] = refl
is_in-any q (n ∷ ns) = ap (λ (b : Bool). b || list_any (nat_eq q) ns) (one-way q n)
    ∙ ap (λ (b : Bool). (n == q) || b) (is_in-any q ns)

none-equal : (n : ℕ) (ns : List ℕ) → is_in n ns ≡ false → AllByRecursion (λ y. nat_eq n y ≡ false) ns
none-equal n [] out = tt
none-equal n (m ∷ ms) out =
    let parts = neither (m == n) (is_in n ms) out in (one-way n m ∙ parts.0, none-equal n ms parts.1)

distinct : (ns : List ℕ) → AreApart ns → IsDistinct nat_eq ns
unfolding IsDistinct
distinct [] apart = tt
distinct (n ∷ ns) apart = (none-equal n ns apart.0, distinct ns apart.1)

-- a part of something is there if the whole is
pub part-there : {X Y : Type 0} (f : X → Y) (o : Option X) → is_some (option_map f o) ≡ is_some o
part-there f None = refl
part-there f (Some x) = refl

-- a line is the walk along it
pub row-walk : (links : List (ℕ × Place)) (first last : Option ℕ) (ns : List ℕ) → IsLine links first last ns
    → walk links (length links) first ≡ ns
row-walk links first last ns line =
    let fits : length ns ≤ length links = length-le_from_keys nat_eq_equiv ns links (distinct ns line.apart)
    (λ q e. sym (part-there (λ p. p.link) (place_of q links)) ∙ placed links None ns q line.linked (sym (is_in-any q ns) ∙ e)) in
    ap (λ (o : Option ℕ). walk links (length links) o) line.first_is ∙ walk_linked links None ns (length links) line.linked fits

-- ---- the same links

pub same-linked : (links ks : List (ℕ × Place)) (before : Option ℕ) (ns : List ℕ)
    → ((q : ℕ) → is_in q ns ≡ true → link_of q ks ≡ link_of q links) → AreLinked links before ns → AreLinked ks before ns
same-linked links ks before [] same linked = tt
same-linked links ks before (n ∷ ns) same linked = (
  same n (ap (λ (b : Bool). b || is_in n ns) (itself n)) ∙ linked.0,
  same-linked links ks (Some n) ns (λ q e. same q (either (n == q) (is_in q ns) e)) linked.1,
)
  where
    either : (a b : Bool) → b ≡ true → (a || b) ≡ true
    either true b e = refl
    either false b e = e

-- the same line, if what stands in it has the same links
pub same-line : (links ks : List (ℕ × Place)) (first last : Option ℕ) (ns : List ℕ)
    → ((q : ℕ) → is_in q ns ≡ true → link_of q ks ≡ link_of q links) → IsLine links first last ns → IsLine ks first last ns
same-line links ks first last ns same line = record {
  linked = same-linked links ks None ns same line.linked;
  first_is = line.first_is;
  last_is = line.last_is;
  apart = line.apart;
}

-- ---- one more

not-at : (n q : ℕ) (f : Link → Link) (o : Option Link) → (n == q) ≡ false → link_at n f q o ≡ o
not-at n q f o e = ap (λ (b : Bool). if b then option_map f o else o) e

-- the last of these is not one that is none of them
not-last : (k : ℕ) (ns : List ℕ) (q : ℕ) (f : Link → Link) (o : Option Link) → is_in q (k ∷ ns) ≡ false
    → link_if (last_after (Some k) ns) f q o ≡ o
not-last k [] q f o out = not-at k q f o (neither (k == q) false out).0
not-last k (n ∷ ns) q f o out = not-last n ns q f o (neither (k == q) (is_in q (n ∷ ns)) out).1

pub behind : (m q : ℕ) (ns : List ℕ) → is_in q ns ≡ true → is_in q (m ∷ ns) ≡ true
behind m q ns e = go (m == q) e
  where
    go : (b : Bool) → is_in q ns ≡ true → (b || is_in q ns) ≡ true
    go true e = refl
    go false e = e

-- the line with a number more at its end
linked-more : (links ks : List (ℕ × Place)) (before : Option ℕ) (ns : List ℕ) (n : ℕ) → AreLinked links before ns → AreApart ns
    → is_in n ns ≡ false
    → ((q : ℕ) → is_in q ns ≡ true
    → link_of q ks ≡ link_if (last_after before ns) (with_after (Some n)) q (link_of q links))
    → link_of n ks ≡ Some (record { before = last_after before ns; after = None })
    → AreLinked ks before (ns ++ n ∷ [])
linked-more links ks before [] n linked apart out step own = (own, tt)
linked-more links ks before (m ∷ []) n linked apart out step own = (
  step m (ap (λ (b : Bool). b || false) (itself m)) ∙ ap (λ (o : Option Link). link_at m (with_after (Some n)) m o) linked.0
      ∙ ap (λ (b : Bool). if b then Some (record { before = before; after = Some n }) else Some (record { before = before; after = None })) (itself m),
  (own, tt),
)
linked-more links ks before (m ∷ k ∷ ns) n linked apart out step own = (
  step m (ap (λ (b : Bool). b || is_in m (k ∷ ns)) (itself m))
      ∙ ap (λ (o : Option Link). link_if (last_after (Some k) ns) (with_after (Some n)) m o) linked.0
      ∙ not-last k ns m (with_after (Some n)) _ apart.0,
  linked-more links ks (Some m) (k ∷ ns) n linked.1 apart.1 (neither (m == n) (is_in n (k ∷ ns)) out).1
      (λ q e. step q (behind m q (k ∷ ns) e)) own,
)

any-last : (m : ℕ) (ns : List ℕ) (o f : Option ℕ) → end_with (last_after (Some m) ns) o f ≡ f
any-last m [] o f = refl
any-last m (n ∷ ns) o f = any-last n ns o f

more-first : (ns : List ℕ) (n : ℕ) → end_with (last_in ns) (Some n) (first_in ns) ≡ first_in (ns ++ n ∷ [])
more-first [] n = refl
more-first (m ∷ ns) n = any-last m ns (Some n) (Some m)

more-last : (o : Option ℕ) (ns : List ℕ) (n : ℕ) → last_after o (ns ++ n ∷ []) ≡ Some n
more-last o [] n = refl
more-last o (m ∷ ns) n = more-last (Some m) ns n

more-apart : (ns : List ℕ) (n : ℕ) → AreApart ns → is_in n ns ≡ false → AreApart (ns ++ n ∷ [])
more-apart [] n apart out = (refl, tt)
more-apart (m ∷ ns) n apart out =
    let parts = neither (m == n) (is_in n ns) out in (
      in-both m ns (n ∷ []) ∙ ap (λ (b : Bool). b || ((n == m) || false)) apart.0
          ∙ ap (λ (b : Bool). b || false) (other-way m n parts.0),
      more-apart ns n apart.1 parts.1,
    )

no-last : (ns : List ℕ) (q : ℕ) (f : Link → Link) (o : Option Link) → is_in q ns ≡ false → link_if (last_in ns) f q o ≡ o
no-last [] q f o out = refl
no-last (n ∷ ns) q f o out = not-last n ns q f o out

-- a number joins a line
pub line-more : (links ks : List (ℕ × Place)) (first last : Option ℕ) (ns : List ℕ) (n : ℕ) → IsLine links first last ns
    → is_in n ns ≡ false → has_place n links ≡ true
    → ((q : ℕ) → link_of q ks ≡ link_if last (with_after (Some n)) q
    (link_at n (λ _. record { before = last; after = None }) q (link_of q links)))
    → IsLine ks (end_with last (Some n) first) (Some n) (ns ++ n ∷ [])
line-more links ks first last ns n line out place step = record {
  linked = linked-more links ks None ns n line.linked line.apart out
      (λ q e. step q ∙ ap (λ (o : Option ℕ). link_if o (with_after (Some n)) q (link_at n (λ _. record { before = last; after = None }) q (link_of q links))) line.last_is
      ∙ ap (λ (o : Option Link). link_if (last_in ns) (with_after (Some n)) q o) (not-at n q (λ _. record { before = last; after = None }) (link_of q links) (differ n q ns out e)))
      (step n ∙ ap (λ (o : Option Link). link_if last (with_after (Some n)) n o) (at-place (link_of n links) place)
      ∙ ap (λ (o : Option ℕ). link_if o (with_after (Some n)) n (Some (record { before = o; after = None }))) line.last_is
      ∙ no-last ns n (with_after (Some n)) _ out);
  first_is = ap (λ (o : Option ℕ). end_with o (Some n) first) line.last_is
      ∙ ap (λ (o : Option ℕ). end_with (last_in ns) (Some n) o) line.first_is ∙ more-first ns n;
  last_is = sym (more-last None ns n);
  apart = more-apart ns n line.apart out;
}
  where
    at-place : (o : Option Link) → is_some o ≡ true → link_at n (λ _. record { before = last; after = None }) n o ≡ Some (record { before = last; after = None })
    at-place None e = cc
    at-place (Some l) e = ap (λ (b : Bool). if b then Some (record { before = last; after = None }) else Some l) (itself n)

-- ---- one less

-- where a number stands
split : (n : ℕ) (ns : List ℕ) → is_in n ns ≡ true
    → (ps : List ℕ) × (ys : List ℕ) × (ns ≡ ps ++ n ∷ ys) × (is_in n ps ≡ false)
split n [] e = cc
split n (m ∷ ms) e = go (m == n) refl (split n ms) e
  where
    go : (b : Bool) → (m == n) ≡ b
        → (is_in n ms ≡ true → (ps : List ℕ) × (ys : List ℕ) × (ms ≡ ps ++ n ∷ ys) × (is_in n ps ≡ false))
        → (b || is_in n ms) ≡ true → (ps : List ℕ) × (ys : List ℕ) × (m ∷ ms ≡ ps ++ n ∷ ys) × (is_in n ps ≡ false)
    go true same rest e = ([], ms, ap (λ (k : ℕ). k ∷ ms) (eqb-true m n same), refl)
    go false other rest e = let at = rest e in
        (m ∷ at.0, at.1, ap (λ (ks : List ℕ). m ∷ ks) at.2, ap (λ (b : Bool). b || is_in n at.0) other ∙ at.3)

-- its link
link-there : (links : List (ℕ × Place)) (before : Option ℕ) (ps : List ℕ) (n : ℕ) (ys : List ℕ)
    → AreLinked links before (ps ++ n ∷ ys) → link_of n links ≡ Some (record { before = last_after before ps; after = first_in ys })
link-there links before [] n ys linked = linked.0
link-there links before (p ∷ ps) n ys linked = link-there links (Some p) ps n ys linked.1

pub without-none : (n : ℕ) (ns : List ℕ) → is_in n ns ≡ false → without n ns ≡ ns
without-none n [] out = refl
without-none n (m ∷ ms) out =
    let parts = neither (m == n) (is_in n ms) out in
    ap (λ (b : Bool). if b then without n ms else m ∷ without n ms) parts.0 ∙ ap (λ (ks : List ℕ). m ∷ ks) (without-none n ms parts.1)

without-there : (ps : List ℕ) (n : ℕ) (ys : List ℕ) → is_in n ps ≡ false → is_in n ys ≡ false → without n (ps ++ n ∷ ys) ≡ ps ++ ys
without-there [] n ys front rest =
    ap (λ (b : Bool). if b then without n ys else n ∷ without n ys) (itself n) ∙ without-none n ys rest
without-there (p ∷ ps) n ys front rest =
    let parts = neither (p == n) (is_in n ps) front in
    ap (λ (b : Bool). if b then without n (ps ++ n ∷ ys) else p ∷ without n (ps ++ n ∷ ys)) parts.0
    ∙ ap (λ (ks : List ℕ). p ∷ ks) (without-there ps n ys parts.1 rest)

apart-there : (ps : List ℕ) (n : ℕ) (ys : List ℕ) → AreApart (ps ++ n ∷ ys) → (is_in n ys ≡ false) × AreApart (ps ++ ys)
apart-there [] n ys apart = apart
apart-there (p ∷ ps) n ys apart =
    let rest = apart-there ps n ys apart.1 in
    let parts = not-in-either p ps (n ∷ ys) apart.0 in
    let later = neither (n == p) (is_in p ys) parts.1 in
    (rest.0, (in-both p ps ys ∙ ap (λ (b : Bool). b || is_in p ys) parts.0 ∙ later.1, rest.1))

no-first : (ys : List ℕ) (q : ℕ) (f : Link → Link) (o : Option Link) → is_in q ys ≡ false → link_if (first_in ys) f q o ≡ o
no-first [] q f o out = refl
no-first (y ∷ ys) q f o out = not-at y q f o (neither (y == q) (is_in q ys) out).0

one-between : (q : ℕ) (ps : List ℕ) (n : ℕ) (ys : List ℕ) → is_in q (ps ++ ys) ≡ true → is_in q (ps ++ n ∷ ys) ≡ true
one-between q [] n ys e = behind n q ys e
one-between q (p ∷ ps) n ys e = go (p == q) (one-between q ps n ys) e
  where
    go : (b : Bool) → (is_in q (ps ++ ys) ≡ true → is_in q (ps ++ n ∷ ys) ≡ true) → (b || is_in q (ps ++ ys)) ≡ true
        → (b || is_in q (ps ++ n ∷ ys)) ≡ true
    go true rest e = refl
    go false rest e = rest e

module _ (links ks : List (ℕ × Place)) (n : ℕ) where
  -- the numbers after it follow what is before it
  from-next : (before : Option ℕ) (ys : List ℕ) → AreLinked links (Some n) ys → AreApart ys
      → ((q : ℕ) (f : Link → Link) (o : Option Link) → is_in q ys ≡ true → link_if before f q o ≡ o)
      → ((q : ℕ) → is_in q ys ≡ true
      → link_of q ks ≡ link_if (first_in ys) (with_before before) q (link_if before (with_after (first_in ys)) q (link_of q links)))
      → AreLinked ks before ys
  from-next before [] linked apart other step = tt
  from-next before (y ∷ ys) linked apart other step =
      let here : is_in y (y ∷ ys) ≡ true = ap (λ (b : Bool). b || is_in y ys) (itself y) in (
        step y here ∙ ap (λ (o : Option Link). link_at y (with_before before) y (link_if before (with_after (Some y)) y o)) linked.0
            ∙ ap (λ (o : Option Link). link_at y (with_before before) y o) (other y (with_after (Some y)) _ here)
            ∙ ap (λ (b : Bool). if b then Some (record { before = before; after = first_in ys }) else Some (record { before = Some n; after = first_in ys })) (itself y),
        same-linked links ks (Some y) ys (λ q e. step q (behind y q ys e)
            ∙ not-at y q (with_before before) _ (differ y q ys apart.0 e) ∙ other q (with_after (Some y)) _ (behind y q ys e)) linked.1,
      )

module _ (links ks : List (ℕ × Place)) (n : ℕ) (ys : List ℕ) where
  linked-less : (before : Option ℕ) (ps : List ℕ) → AreLinked links before (ps ++ n ∷ ys) → AreApart (ps ++ n ∷ ys)
      → ((q : ℕ) (f : Link → Link) (o : Option Link) → is_in q (ps ++ ys) ≡ true → link_if before f q o ≡ o)
      → ((q : ℕ) → is_in q (ps ++ ys) ≡ true
      → link_of q ks ≡ link_if (first_in ys) (with_before (last_after before ps)) q
      (link_if (last_after before ps) (with_after (first_in ys)) q (link_of q links)))
      → AreLinked ks before (ps ++ ys)
  linked-less before [] linked apart other step = from-next links ks n before ys linked.1 apart.1 other step
  linked-less before (p ∷ []) linked apart other step =
      let out = not-in-either p [] (n ∷ ys) apart.0 in (
        step p (ap (λ (b : Bool). b || is_in p ys) (itself p))
            ∙ ap (λ (o : Option Link). link_if (first_in ys) (with_before (Some p)) p (link_at p (with_after (first_in ys)) p o)) linked.0
            ∙ no-first ys p (with_before (Some p)) _ (neither (n == p) (is_in p ys) out.1).1
            ∙ ap (λ (b : Bool). if b then Some (record { before = before; after = first_in ys }) else Some (record { before = before; after = Some n })) (itself p),
        linked-less (Some p) [] linked.1 apart.1 (λ q f o e. not-at p q f o (differ p q (n ∷ ys) apart.0 (behind n q ys e)))
            (λ q e. step q (behind p q ys e)),
      )
  linked-less before (p ∷ k ∷ ps) linked apart other step =
      let out = not-in-either p (k ∷ ps) (n ∷ ys) apart.0 in (
        step p (ap (λ (b : Bool). b || is_in p (k ∷ ps ++ ys)) (itself p))
            ∙ ap (λ (o : Option Link). link_if (first_in ys) (with_before (last_after (Some k) ps)) p
            (link_if (last_after (Some k) ps) (with_after (first_in ys)) p o)) linked.0
            ∙ no-first ys p (with_before (last_after (Some k) ps)) _ (neither (n == p) (is_in p ys) out.1).1
            ∙ not-last k ps p (with_after (first_in ys)) _ out.0,
        linked-less (Some p) (k ∷ ps) linked.1 apart.1
            (λ q f o e. not-at p q f o (differ p q (k ∷ ps ++ n ∷ ys) apart.0 (one-between q (k ∷ ps) n ys e)))
            (λ q e. step q (behind p q (k ∷ ps ++ ys) e)),
      )

less-first : (ps : List ℕ) (n : ℕ) (ys : List ℕ)
    → end_with (last_in ps) (first_in ys) (first_in (ps ++ n ∷ ys)) ≡ first_in (ps ++ ys)
less-first [] n ys = refl
less-first (p ∷ ps) n ys = any-last p ps (first_in ys) (Some p)

last-both : (o : Option ℕ) (ps ys : List ℕ) → last_after o (ps ++ ys) ≡ last_after (last_after o ps) ys
last-both o [] ys = refl
last-both o (p ∷ ps) ys = last-both (Some p) ps ys

less-last : (o : Option ℕ) (n : ℕ) (ys : List ℕ) → end_with (first_in ys) o (last_after (Some n) ys) ≡ last_after o ys
less-last o n [] = refl
less-last o n (y ∷ ys) = refl

-- a number leaves a line
pub line-less : (links ks : List (ℕ × Place)) (first last : Option ℕ) (ns : List ℕ) (n : ℕ) (link : Link) → IsLine links first last ns
    → is_in n ns ≡ true → link_of n links ≡ Some link
    → ((q : ℕ) → link_of q ks ≡ link_if link.after (with_before link.before) q
    (link_if link.before (with_after link.after) q (link_of q links)))
    → IsLine ks (end_with link.before link.after first) (end_with link.after link.before last) (without n ns)
line-less links ks first last ns n link line within own step =
    let at = split n ns within in
    let ps = at.0 in
    let ys = at.1 in
    let linked : AreLinked links None (ps ++ n ∷ ys) = subst (λ (ms : List ℕ). AreLinked links None ms) at.2 line.linked in
    let apart : AreApart (ps ++ n ∷ ys) = subst (λ (ms : List ℕ). AreApart ms) at.2 line.apart in
    let there = link-there links None ps n ys linked in
    let rest = apart-there ps n ys apart in
    let is : Some link ≡ Some (record { before = last_in ps; after = first_in ys }) = sym own ∙ there in
    let before : link.before ≡ last_in ps = cc in
    let after : link.after ≡ first_in ys = cc in
    let gone : without n ns ≡ ps ++ ys = ap (λ (ms : List ℕ). without n ms) at.2 ∙ without-there ps n ys at.3 rest.0 in
    subst (λ (ms : List ℕ). IsLine ks (end_with link.before link.after first) (end_with link.after link.before last) ms) (sym gone)
    (record {
      linked = linked-less links ks n ys None ps linked apart (λ q f o e. refl)
          (λ q e. step q ∙ ap (λ (o : Option ℕ). link_if link.after (with_before o) q
          (link_if o (with_after link.after) q (link_of q links))) before
          ∙ ap (λ (o : Option ℕ). link_if o (with_before (last_in ps)) q
          (link_if (last_in ps) (with_after o) q (link_of q links))) after);
      first_is = ap (λ (o : Option ℕ). end_with o link.after first) before ∙ ap (λ (o : Option ℕ). end_with (last_in ps) o first) after
          ∙ ap (λ (o : Option ℕ). end_with (last_in ps) (first_in ys) o) (line.first_is ∙ ap (λ (ms : List ℕ). first_in ms) at.2)
          ∙ less-first ps n ys;
      last_is = ap (λ (o : Option ℕ). end_with o link.before last) after ∙ ap (λ (o : Option ℕ). end_with (first_in ys) o last) before
          ∙ ap (λ (o : Option ℕ). end_with (first_in ys) (last_in ps) o) (line.last_is ∙ ap (λ (ms : List ℕ). last_in ms) at.2
          ∙ last-both None ps (n ∷ ys))
          ∙ less-last (last_in ps) n ys ∙ sym (last-both None ps ys);
      apart = rest.1;
    })

-- ---- the last

last-again-after : (m : ℕ) (ns : List ℕ) (n : ℕ) → AreApart (m ∷ ns) → last_after (Some m) ns ≡ Some n
    → without n (m ∷ ns) ++ n ∷ [] ≡ m ∷ ns
last-again-after m [] n apart e =
    let same : m ≡ n = cc in
    subst (λ (k : ℕ). without k (m ∷ []) ++ k ∷ [] ≡ m ∷ []) same
    (ap (λ (b : Bool). (if b then [] else m ∷ []) ++ m ∷ []) (itself m))
last-again-after m (k ∷ ks) n apart e =
    ap (λ (b : Bool). (if b then without n (k ∷ ks) else m ∷ without n (k ∷ ks)) ++ n ∷ [])
    (differ m n (k ∷ ks) apart.0 (last-stands k ks n e))
    ∙ ap (λ (ms : List ℕ). m ∷ ms) (last-again-after k ks n apart.1 e)

-- the last that goes to the end stays where it is
pub last-again : (ns : List ℕ) (n : ℕ) → AreApart ns → last_in ns ≡ Some n → without n ns ++ n ∷ [] ≡ ns
last-again [] n apart e = cc
last-again (m ∷ ns) n apart e = last-again-after m ns n apart e
