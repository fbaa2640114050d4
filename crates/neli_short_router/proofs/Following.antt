-- One read more, and all reads by the reply rule.
use Rattle.std.proofs.Common.{◌≡◌, ℕ, suc, ◌<◌, ◌≤◌, Bool, true, false, ◌||◌, List, [], ◌∷◌, ◌++◌, Option, Some, None, Result}
use Rattle.std.proofs.Common.{refl, sym, ap, ◌∙◌, length, subst, arith}
use Rattle.std.specs.Prelude.{if◌then◌else◌}
use Rattle.std.specs.Option.{option_map}
use Rattle.std.proofs.lemmas.List.{append-nil, append_assoc}
use Rattle.neli_wire.specs.declared.errors.DeError.{DeError}
use Rattle.neli_deliveries.specs.declared.delivery.Delivery.{Delivery}
use Rattle.neli_deliveries.specs.Deliveries.{heading_of}
use Rattle.neli_deliveries.specs.Readings.{Item}
use Rattle.neli_deliveries.specs.declared.delivery.Heading.{Heading}
use Rattle.neli_router.specs.GivenUp.{finishes}
use Rattle.neli_router.specs.declared.verdict.Heard.{Heard}
use Rattle.neli_router.specs.declared.verdict.Verdict.{Verdict}
use Rattle.neli_router.specs.declared.verdict.Verdict.TheVariants as stands
use Rattle.neli_router.specs.Rule.{ends_at, has_number, item_of}
use Rattle.neli_router.specs.Verdicts.{given_of, heard_after, is_last, verdict, verdict_with}
use Rattle.neli_router.specs.laws.Verdicts.{gave, gave_next, given_more, stops, stops_next, verdict_next}
use Rattle.neli_short_router.specs.Answers.{HasFinished, HasRead, HasVerdict, IsAnswer}
use Rattle.neli_short_router.specs.Reads.{AreReads, Gives, IsRead, Stand, stand_after}

-- ---- one read more

-- how many items are left at most
abbrev pub waiting : Option (List Delivery) → ℕ
waiting None = 0
waiting (Some ds) = length ds

abbrev pub left : Stand → ℕ
left s = if s.handle.ended then 0 else suc (waiting s.waits)

less : (b : Bool) (n m : ℕ) → suc n ≤ m → (if b then 0 else suc n) < suc m
less true n m h = omega (arith, h)
less false n m h = omega (arith, h)

module _ {K P V : Type 0} (type_of : ℕ → K) (number_of : K → ℕ) (view : P → V) (size : P → ℕ) (read : List ℕ
    → Result V DeError) where
  pub reads_more : (s t u : Stand) (xs : List (Item K P)) (x : Item K P)
      → AreReads type_of number_of view size read s xs t → IsRead type_of number_of view size read t x u
      → AreReads type_of number_of view size read s (xs ++ x ∷ []) u
  reads_more s t u [] x are is = (u, subst (λ (r : Stand). IsRead type_of number_of view size read r x u) are is, refl)
  reads_more s t u (y ∷ xs) x are is = (are.0, are.1, reads_more are.0 t u xs x are.2 is)

-- ---- by the reply rule

or_false : (a b : Bool) → a ≡ false → (a || b) ≡ b
or_false true b e = cc
or_false false b e = refl

heard_next : {K P : Type 0} (v : Verdict) (heard : Option Heard) (ends : Bool) (k : Heading) (x : Item K P)
    → HasVerdict v heard → HasVerdict (verdict_with v ends x) (option_map (heard_after ends k x) heard)
heard_next v None ends k x is = tt
heard_next v (Some h) ends k x is = ap (λ (w : Verdict). verdict_with w ends x) is

-- ---- whether the other side's answer has ended

or_none : (b : Bool) → b ≡ (b || false)
or_none true = refl
or_none false = refl

or_more : (a b c : Bool) → ((a || b) || c) ≡ (a || (b || c))
or_more true b c = refl
or_more false b c = refl

finished_none : (heard : Option Heard) → HasFinished [] heard heard
finished_none None = refl
finished_none (Some h) = (refl, or_none h.finished)

finished_more : {K P : Type 0} (ds : List Delivery) (d : Delivery) (before after : Option Heard) (ends : Bool)
    (x : Item K P) → HasFinished ds (option_map (heard_after ends (heading_of d) x) before) after
    → HasFinished (d ∷ ds) before after
finished_more ds d None after ends x is = is
finished_more ds d (Some b) None ends x is = absurd is
finished_more ds d (Some b) (Some a) ends x is =
    (is.0, is.1 ∙ or_more b.finished (is_last b.answering (heading_of d)) (finishes b.answering ds))

module _ {K P : Type 0} (number_of : K → ℕ) where
  -- after one item more
  has_read_more : (before : List (Item K P)) (s : Stand) (d : Delivery) (ds : List Delivery) (item : Item K P)
      → HasRead number_of before s → s.handle.ended ≡ false
      → HasRead number_of (before ++ item ∷ []) (stand_after number_of s.handle d ds s.heard item)
  has_read_more before s d ds item has goes =
      let needs = s.handle.needs_ack in
      let numbered = has_number s.handle.number in
      let single = s.handle.single_given in
      let gave_is : single ≡ gave number_of needs numbered before = has.single in
      record {
        single = rw (gave_next number_of needs numbered before item, ← gave_is) refl;
        ended = sym (stops_next number_of needs numbered before item
            ∙ rw (← has.ended, ← gave_is) (or_false s.handle.ended
            (ends_at number_of needs numbered single item) goes));
        verdict = rw (verdict_next number_of needs numbered before item, ← gave_is)
            (heard_next (verdict number_of needs numbered before) s.heard (ends_at number_of needs numbered single item)
            (heading_of d) (item_of number_of needs numbered single item) has.verdict);
      }

  -- and one item in front of those that later reads return
  given_front : (needs numbered : Bool) (before readings xs : List (Item K P)) (item x : Item K P)
      → stops number_of needs numbered before ≡ false
      → x ≡ item_of number_of needs numbered (gave number_of needs numbered before) item
      → given_of number_of needs numbered ((before ++ item ∷ []) ++ readings)
      ≡ given_of number_of needs numbered (before ++ item ∷ []) ++ xs
      → given_of number_of needs numbered (before ++ (item ∷ readings))
      ≡ given_of number_of needs numbered before ++ (x ∷ xs)
  given_front needs numbered before readings xs item x goes is later =
      let here = item_of number_of needs numbered (gave number_of needs numbered before) item in
      ap (λ (ys : List (Item K P)). given_of number_of needs numbered ys) (sym (append_assoc before (item ∷ []) readings))
      ∙ (later
      ∙ (ap (λ (ys : List (Item K P)). ys ++ xs) (given_more number_of needs numbered before item goes)
      ∙ (append_assoc (given_of number_of needs numbered before) (here ∷ []) xs
      ∙ ap (λ (y : Item K P). given_of number_of needs numbered before ++ (y ∷ xs)) (sym is))))

-- before the first read
module _ {K : Type 0} (P : Type 0) (number_of : K → ℕ) (numbered : Bool) where
  pub nothing_read : (needs : Bool) → stands.Pending ≡ verdict {P = P} number_of needs numbered []
  nothing_read true = refl
  nothing_read false = refl

  pub nothing_stops : (needs : Bool) → false ≡ stops {P = P} number_of needs numbered []
  nothing_stops true = refl
  nothing_stops false = refl

module _ {K P V : Type 0} (type_of : ℕ → K) (number_of : K → ℕ) (view : P → V) (size : P → ℕ) (read : List ℕ
    → Result V DeError) where
  -- what reads return from here on
  abbrev Goes : Stand → List (Item K P) → List Delivery → List (Item K P) → Stand → Type 0
  Goes s before ds given t =
      IsAnswer type_of number_of view size read s.handle.needs_ack (has_number s.handle.number) s.heard before ds given t

  goes_from : (s u t : Stand) (x : Item K P) (xs before : List (Item K P)) (ds : List Delivery)
      → HasRead number_of before s → s.handle.ended ≡ false
      → Gives type_of number_of view size read s.handle (Some ds) s.heard x u
      → AreReads type_of number_of view size read u xs t
      → ((r : Stand) (items : List (Item K P)) (es : List Delivery) → HasRead number_of items r → r.waits ≡ Some es
      → AreReads type_of number_of view size read r xs t → Goes r items es xs t)
      → Goes s before ds (x ∷ xs) t
  goes_from s u t x xs before [] has goes gives later next = absurd gives
  goes_from s u t x xs before (d ∷ ds) has goes gives later next =
      let needs = s.handle.needs_ack in
      let numbered = has_number s.handle.number in
      let item = gives.0 in
      let after = stand_after number_of s.handle d ds s.heard item in
      let rest : Goes after (before ++ item ∷ []) ds xs t =
      next after (before ++ item ∷ []) ds (has_read_more number_of before s d ds item has goes) refl
      (subst (λ (r : Stand). AreReads type_of number_of view size read r xs t) gives.3 later) in
      record {
        taken = d ∷ rest.taken;
        left = rest.left;
        cut = ap (λ (es : List Delivery). d ∷ es) rest.cut;
        readings = item ∷ rest.readings;
        are = (gives.1, rest.are);
        given_all = given_front number_of needs numbered before rest.readings xs item x (sym has.ended ∙ goes)
            (gives.2 ∙ ap (λ (b : Bool). item_of number_of needs numbered b item) has.single) rest.given_all;
        stands = subst (λ (ys : List (Item K P)). HasRead number_of ys t)
            (append_assoc before (item ∷ []) rest.readings) rest.stands;
        finished = finished_more rest.taken d s.heard t.heard (ends_at number_of needs numbered s.handle.single_given item)
            (item_of number_of needs numbered s.handle.single_given item) rest.finished;
        waits = rest.waits;
      }

  pub goes_on : (s t : Stand) (before given : List (Item K P)) (ds : List Delivery) → HasRead number_of before s
      → s.waits ≡ Some ds → AreReads type_of number_of view size read s given t → Goes s before ds given t
  goes_on s t before [] ds has waits are =
      let numbered = has_number s.handle.number in
      record {
        taken = [];
        left = ds;
        cut = refl;
        readings = [];
        are = tt;
        given_all = ap (λ (ys : List (Item K P)). given_of number_of s.handle.needs_ack numbered ys) (append-nil before)
            ∙ sym (append-nil (given_of number_of s.handle.needs_ack numbered before));
        stands = subst (λ (ys : List (Item K P)). HasRead number_of ys t) (sym (append-nil before))
            (subst (λ (r : Stand). HasRead number_of before r) (sym are) has);
        finished = subst (λ (r : Stand). HasFinished [] s.heard r.heard) (sym are) (finished_none s.heard);
        waits = ap (λ (r : Stand). r.waits) are ∙ waits;
      }
  goes_on s t before (x ∷ xs) ds has waits are =
      goes_from s are.0 t x xs before ds has are.1.0
      (subst (λ (w : Option (List Delivery)). Gives type_of number_of view size read s.handle w s.heard x are.0) waits
      are.1.1)
      are.2 (λ r items es h w a. goes_on r t items xs es h w a)
