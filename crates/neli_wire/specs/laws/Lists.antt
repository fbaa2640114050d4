-- Laws of lists of values, which the impls cite.
use Rattle.std.proofs.Common.{◌≡◌, ◌≢◌, ℕ, zero, suc, ◌+◌, ◌<◌, ◌≤◌, Bool, true, false, cond, ltb, List, [], ◌∷◌, ◌++◌}
use Rattle.std.proofs.Common.{length, Result, Ok, Err, refl, sym, ap, subst, ◌∙◌, append_assoc, arith, length-append}
use Rattle.std.specs.Prelude.{sum_by}
use Rattle.std.proofs.lemmas.List.Sums.{sum_by-cons}
use Rattle.neli_wire.specs.declared.errors.SerError.TheVariants as ser
use Rattle.neli_wire.specs.declared.errors.DeError.{DeError}
use Rattle.neli_wire.specs.declared.errors.DeError.TheVariants.{InvalidInput, Memory}
use Rattle.neli_wire.specs.laws.Reading.{bind_ok}
use Rattle.std.proofs.lemmas.Bool.{ltb-true, lt-ltb, le-ltb}
use Rattle.neli_wire.specs.Writing.{Wire, ◌+++◌, wire_all}
use Rattle.neli_wire.specs.Bytes.{Reading, short}
use Rattle.neli_wire.specs.Reading.{IsLocal, AreElements, ◌>>=◌, map_refusal, refusal_within, is_short}
use Rattle.neli_wire.specs.laws.Elements.{elements_by, elements}

abbrev written : List ℕ → Wire
written bytes = Ok bytes

-- the parts of a text of two parts
pub both_written : (a b : Wire) (bytes : List ℕ) → a +++ b ≡ Ok bytes
    → (x : List ℕ) × (y : List ℕ) × (a ≡ Ok x) × (b ≡ Ok y) × (bytes ≡ x ++ y)
both_written (Ok x) (Ok y) bytes e = (x, y, refl, refl, cc)
both_written (Ok x) (Err d) bytes e = absurd cc
both_written (Err d) b bytes e = absurd cc

pub wire_all-length : {A : Type 0} (wire : A → Wire) (size : A → ℕ)
    → ((x : A) (bytes : List ℕ) → wire x ≡ Ok bytes → length bytes ≡ size x) → (xs : List A) (bytes : List ℕ)
    → wire_all wire xs ≡ Ok bytes → length bytes ≡ sum_by size xs
wire_all-length wire size each [] bytes e = let same : [] ≡ bytes = cc in sym (ap length same)
wire_all-length wire size each (x ∷ xs) bytes e =
    let p = both_written (wire x) (wire_all wire xs) bytes e in
    let head = each x p.0 p.2 in
    let tail = wire_all-length wire size each xs p.1 p.3 in
    ap length p.4 ∙ length-append p.0 p.1 ∙ rw (head, tail) (sym (sum_by-cons size x xs))

pub both-no_memory : (a b : Wire) → a ≢ Err ser.Memory → b ≢ Err ser.Memory → a +++ b ≢ Err ser.Memory
both-no_memory (Ok x) (Ok y) f g e = cc
both-no_memory (Ok x) (Err d) f g e = g e
both-no_memory (Err d) b f g e = f e

pub wire_all-no_memory : {A : Type 0} (wire : A → Wire) → ((x : A) → wire x ≢ Err ser.Memory) → (xs : List A)
    → wire_all wire xs ≢ Err ser.Memory
wire_all-no_memory wire each [] e = cc
wire_all-no_memory wire each (x ∷ xs) e = both-no_memory (wire x) (wire_all wire xs) (each x)
    (wire_all-no_memory wire each xs) e

bind-no_memory : {A B : Type 0} (r : Result A DeError) (f : A → Result B DeError) → r ≢ Err Memory
    → ((x : A) → f x ≢ Err Memory) → (r >>= f) ≢ Err Memory
bind-no_memory (Ok x) f p q e = q x e
bind-no_memory (Err d) f p q e = p (ap (λ (y : DeError). Err y) cc)

guard-no_memory : {A : Type 0} (b : Bool) (r : Result A DeError) (stuck : DeError) → r ≢ Err Memory → stuck ≢ Memory
    → cond b r (Err stuck) ≢ Err Memory
guard-no_memory true r stuck p q e = p e
guard-no_memory false r stuck p q e = q cc

elements_by-no_memory : {V : Type 0} (read : List ℕ → Reading V) (stuck : DeError)
    → ((s : List ℕ) → read s ≢ Err Memory) → stuck ≢ Memory → (fuel : ℕ) (s : List ℕ)
    → elements_by read stuck fuel s ≢ Err Memory
unfolding elements_by
elements_by-no_memory read stuck each other zero [] e = cc
elements_by-no_memory read stuck each other (suc fuel) [] e = cc
elements_by-no_memory read stuck each other zero (b ∷ s) e = other cc
elements_by-no_memory read stuck each other (suc fuel) (b ∷ s) e =
    bind-no_memory (read (b ∷ s)) (λ p. cond (ltb (length p.1) (suc (length s)))
    (elements_by read stuck fuel p.1 >>= λ more. Ok (p.0 ∷ more)) (Err stuck)) (each (b ∷ s))
    (λ p. guard-no_memory (ltb (length p.1) (suc (length s)))
    (elements_by read stuck fuel p.1 >>= λ more. Ok (p.0 ∷ more)) stuck
    (bind-no_memory (elements_by read stuck fuel p.1) (λ more. Ok (p.0 ∷ more))
    (elements_by-no_memory read stuck each other fuel p.1) (λ more f. cc)) other) e

refusal_within-no_memory : (n : ℕ) (b : Bool) (e : DeError) → e ≢ Memory → cond b (InvalidInput n) e ≢ Memory
refusal_within-no_memory n true e p f = cc
refusal_within-no_memory n false e p f = p f

pub map_refusal-no_memory : {A : Type 0} (n : ℕ) (r : Result A DeError) → r ≢ Err Memory
    → map_refusal (refusal_within n) r ≢ Err Memory
map_refusal-no_memory n (Ok x) p e = cc
map_refusal-no_memory n (Err d) p e = refusal_within-no_memory n (is_short d) d
    (λ f. p (ap (λ (y : DeError). Err y) f)) cc

pub elements-no_memory : {V : Type 0} (read : List ℕ → Reading V) → ((s : List ℕ) → read s ≢ Err Memory) → (s : List ℕ)
    → elements read s ≢ Err Memory
elements-no_memory read each s e = map_refusal-no_memory (length s)
    (elements_by read (InvalidInput (length s)) (length s) s)
    (elements_by-no_memory read (InvalidInput (length s)) each (λ f. cc) (length s) s) e

refusal_within-never_short : (n : ℕ) (b : Bool) (e : DeError) → is_short e ≡ b → cond b (InvalidInput n) e ≢ short
refusal_within-never_short n true e is f = cc
refusal_within-never_short n false e is f = let same : is_short short ≡ false =
    subst (λ (x : DeError). is_short x ≡ false) f is in cc

-- a read with an input is never refused as short
pub map_refusal-never_short : {A : Type 0} (n : ℕ) (r : Result A DeError) → map_refusal (refusal_within n) r ≢ Err short
map_refusal-never_short n (Ok x) e = cc
map_refusal-never_short n (Err d) e = refusal_within-never_short n (is_short d) d refl cc

pub elements-never_short : {V : Type 0} (read : List ℕ → Reading V) (s : List ℕ) → elements read s ≢ Err short
elements-never_short read s e = map_refusal-never_short (length s)
    (elements_by read (InvalidInput (length s)) (length s) s) e

-- ---- the elements one after the other

pub nothing_left : {V : Type 0} (read : List ℕ → Reading V) (stuck : DeError) (fuel : ℕ) (s : List ℕ) → length s ≡ 0
    → elements_by read stuck fuel s ≡ Ok []
unfolding elements_by
nothing_left read stuck zero [] e = refl
nothing_left read stuck (suc fuel) [] e = refl
nothing_left read stuck fuel (b ∷ s) e = absurd (omega arith)

pub one_more : {V : Type 0} (read : List ℕ → Reading V) (stuck : DeError) (fuel : ℕ) (s r : List ℕ) (v : V)
    → read s ≡ Ok (v, r) → length r < length s → elements_by read stuck (suc fuel) s
    ≡ (elements_by read stuck fuel r >>= λ more. Ok (v ∷ more))
unfolding elements_by
one_more read stuck fuel [] r v e lt = absurd (omega arith)
one_more read stuck fuel (b ∷ s) r v e lt =
    let shorter : ltb (length r) (suc (length s)) ≡ true = lt-ltb _ _ lt in
    rw (e, shorter) refl

pub none_taken : {V : Type 0} (read : List ℕ → Reading V) (stuck : DeError) (fuel : ℕ) (s r : List ℕ) (v : V)
    → read s ≡ Ok (v, r) → 0 < length s → length s ≤ length r → elements_by read stuck (suc fuel) s ≡ Err stuck
unfolding elements_by
none_taken read stuck fuel [] r v e some le = absurd (omega arith)
none_taken read stuck fuel (b ∷ s) r v e some le =
    let same : ltb (length r) (suc (length s)) ≡ false = le-ltb _ _ le in
    rw (e, same) refl

pub none_read : {V : Type 0} (read : List ℕ → Reading V) (stuck : DeError) (fuel : ℕ) (s : List ℕ) (e : DeError)
    → read s ≡ Err e → 0 < length s → elements_by read stuck (suc fuel) s ≡ Err e
unfolding elements_by
none_read read stuck fuel [] e h some = absurd (omega arith)
none_read read stuck fuel (b ∷ s) e h some = rw h refl

-- ---- what a list of elements is

ok_is : {A : Type 0} (x y : A) → (let r : Result A DeError = Ok x in r ≡ Ok y) → x ≡ y
ok_is x y e = cc

-- a test that is passed, where the refusal comes last
else_ok : {A : Type 0} (b : Bool) (r : Result A DeError) (stuck : DeError) (y : A) → cond b r (Err stuck) ≡ Ok y
    → (b ≡ true) × (r ≡ Ok y)
else_ok true r stuck y e = (refl, e)
else_ok false r stuck y e = absurd cc

module _ {V : Type 0} (read : List ℕ → Reading V) (stuck : DeError) where
  are_by : IsLocal read → (fuel : ℕ) (s : List ℕ) (vs : List V) → elements_by read stuck fuel s ≡ Ok vs
      → AreElements read s vs
  unfolding elements_by
  are_by local zero [] vs e = subst (AreElements read []) (ok_is [] vs e) refl
  are_by local (suc fuel) [] vs e = subst (AreElements read []) (ok_is [] vs e) refl
  are_by local zero (b ∷ s) vs e = absurd cc
  are_by local (suc fuel) (b ∷ s) vs e =
      let one = bind_ok (read (b ∷ s)) _ vs e in
      let two = else_ok (ltb (length one.0.1) (suc (length s))) _ stuck vs one.2 in
      let three = bind_ok (elements_by read stuck fuel one.0.1) _ vs two.1 in
      let front = local (b ∷ s) one.0.1 one.0.0 one.1 in
      let shorter : length one.0.1 < suc (length s) = ltb-true _ _ two.0 in
      let some : 0 < length front.0 = omega (arith, ap length front.1, length-append front.0 one.0.1) in
      subst (AreElements read (b ∷ s)) (ok_is (one.0.0 ∷ three.0) vs three.2)
      (front.0, one.0.1, front.1, some, front.2, are_by local fuel one.0.1 three.0 three.1)

  by_are : (fuel : ℕ) (s : List ℕ) (vs : List V) → length s ≤ fuel → AreElements read s vs
      → elements_by read stuck fuel s ≡ Ok vs
  by_are fuel s [] le are = nothing_left read stuck fuel s (ap length are)
  by_are zero s (v ∷ vs) le are = absurd (omega (arith, ap length are.2, length-append are.0 are.1, are.3))
  by_are (suc fuel) s (v ∷ vs) le are =
      let len : length s ≡ length are.0 + length are.1 = ap length are.2 ∙ length-append are.0 are.1 in
      let here : read s ≡ Ok (v, are.1) = ap read are.2 ∙ are.4 are.1 in
      let later : elements_by read stuck fuel are.1 ≡ Ok vs = by_are fuel are.1 vs (omega (arith, len, are.3)) are.5 in
      rw (one_more read stuck fuel s are.1 v here (omega (arith, len, are.3)), later) refl

  -- what refuses the bytes after elements refuses the whole
  by_refused : (fuel : ℕ) (front rest : List ℕ) (vs : List V) (e : DeError) → length (front ++ rest) ≤ fuel
      → AreElements read front vs → 0 < length rest → ((more : ℕ) → elements_by read stuck (suc more) rest ≡ Err e)
      → elements_by read stuck fuel (front ++ rest) ≡ Err e
  by_refused zero front rest vs e le are some h = absurd (omega (arith, length-append front rest))
  by_refused (suc fuel) front rest [] e le are some h = rw are (h fuel)
  by_refused (suc fuel) front rest (v ∷ vs) e le are some h =
      let len : length front ≡ length are.0 + length are.1 = ap length are.2 ∙ length-append are.0 are.1 in
      let both = length-append front rest in
      let inner = length-append are.1 rest in
      let parts : front ++ rest ≡ are.0 ++ (are.1 ++ rest) = ap (λ (x : List ℕ). x ++ rest) are.2
      ∙ append_assoc are.0 are.1 rest in
      let here : read (front ++ rest) ≡ Ok (v, are.1 ++ rest) = ap read parts ∙ are.4 (are.1 ++ rest) in
      let later : elements_by read stuck fuel (are.1 ++ rest) ≡ Err e =
      by_refused fuel are.1 rest vs e (omega (arith, len, are.3, both, inner)) are.5 some h in
      rw (
        one_more read stuck fuel (front ++ rest) (are.1 ++ rest) v here (omega (arith, len, are.3, both, inner)),
        later,
      ) refl

unpassed : {A : Type 0} (n : ℕ) (r : Result A DeError) (x : A) → map_refusal (refusal_within n) r ≡ Ok x → r ≡ Ok x
unpassed n (Ok y) x e = e
unpassed n (Err d) x e = absurd cc

-- a list that is read is spelled by the bytes
pub elements-are : {V : Type 0} (read : List ℕ → Reading V) → IsLocal read → (s : List ℕ) (vs : List V)
    → elements read s ≡ Ok vs → AreElements read s vs
elements-are read local s vs e =
    are_by read (InvalidInput (length s)) local (length s) s vs
    (unpassed (length s) (elements_by read (InvalidInput (length s)) (length s) s) vs e)

-- and what is so spelled is read
pub are-elements : {V : Type 0} (read : List ℕ → Reading V) (s : List ℕ) (vs : List V) → AreElements read s vs
    → elements read s ≡ Ok vs
are-elements read s vs are = rw (by_are read (InvalidInput (length s)) (length s) s vs (omega arith) are) refl

-- after elements that are read, the first refusal is that of the list
pub elements-refusal : {V : Type 0} (read : List ℕ → Reading V) (front rest : List ℕ) (vs : List V) (e : DeError)
    → AreElements read front vs → 0 < length rest → read rest ≡ Err e
    → elements read (front ++ rest) ≡ Err (refusal_within (length (front ++ rest)) e)
elements-refusal read front rest vs e are some h =
    let stuck : DeError = InvalidInput (length (front ++ rest)) in
    rw (by_refused read stuck (length (front ++ rest)) front rest vs e (omega arith) are some
    (λ more. none_read read stuck more rest e h some)) refl

-- after elements that are read, one that takes no byte refuses the list
pub elements-stuck : {V : Type 0} (read : List ℕ → Reading V) (front rest r : List ℕ) (vs : List V) (v : V)
    → AreElements read front vs → 0 < length rest → read rest ≡ Ok (v, r) → length rest ≤ length r
    → elements read (front ++ rest) ≡ Err (InvalidInput (length (front ++ rest)))
elements-stuck read front rest r vs v are some h none =
    let stuck : DeError = InvalidInput (length (front ++ rest)) in
    rw (by_refused read stuck (length (front ++ rest)) front rest vs stuck (omega arith) are some
    (λ more. none_taken read stuck more rest r v h some none)) refl
