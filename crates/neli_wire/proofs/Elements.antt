-- Reading values one after the other.
use Rattle.std.proofs.Common.{◌≡◌, ◌≢◌, ℕ, suc, ◌+◌, ◌-◌, ◌<◌, ◌≤◌, Bool, true, false, cond, List, [], ◌∷◌, ◌++◌}
use Rattle.std.proofs.Common.{length, Result, Ok, Err, refl, sym, ap, ◌∙◌, append_assoc, arith, length-append}
use Rattle.std.proofs.lemmas.List.{append-nil}
use Rattle.neli_wire.specs.declared.errors.DeError.{DeError}
use Rattle.neli_wire.specs.declared.errors.DeError.TheVariants.{Msg, Io, Utf8, InvalidInput, Memory}
use Rattle.neli_wire.specs.Place.{Place, whole}
use Rattle.neli_wire.specs.laws.Lists.{nothing_left, one_more, none_taken, none_read}
use Rattle.neli_wire.specs.Bytes.{Reading}
use Rattle.neli_wire.specs.Refusals.{Refuses}
use Rattle.neli_wire.specs.Reading.{◌>>=◌, IsLocal, map_refusal, refusal_within, is_short}
use Rattle.neli_wire.specs.laws.Elements.{elements_by, elements}

-- what was read before, and what is still read
abbrev pub with_front : {V : Type 0} → List V → Result (List V) DeError → Result (List V) DeError
with_front front read = read >>= λ more. Ok (front ++ more)

abbrev done : {A : Type 0} → A → Result A DeError
done x = Ok x

regroup : {V : Type 0} (front : List V) (v : V) (read : Result (List V) DeError)
    → with_front front (read >>= λ more. Ok (v ∷ more)) ≡ with_front (front ++ v ∷ []) read
regroup front v (Ok more) = ap done (simp append_assoc)
regroup front v (Err e) = refl

-- the values read so far, and the place after them
pub record Spells {V : Type 0} (read : List ℕ → Reading V) (bytes : List ℕ) (vs : List V) (at : Place) : Type 0 where
  pub place : whole at ≡ bytes
  pub room : length vs + length at.rest ≤ length bytes
  pub others : with_front vs (elements_by read (InvalidInput (length bytes)) (length bytes - length vs) at.rest)
      ≡ elements_by read (InvalidInput (length bytes)) (length bytes) bytes

module _ {V : Type 0} (read : List ℕ → Reading V) (bytes : List ℕ) (vs : List V) (at : Place)
    (so_far : Spells read bytes vs at) where
  pub Spells-end : length bytes ≤ length at.before → elements read bytes ≡ Ok vs
  Spells-end le =
      let none : length at.rest ≡ 0 = omega (arith, ap length so_far.place, length-append at.before at.rest) in
      let all : elements_by read (InvalidInput (length bytes)) (length bytes) bytes ≡ Ok vs = sym so_far.others
      ∙ (rw (nothing_left read (InvalidInput (length bytes)) (length bytes - length vs) at.rest none)
      (ap done (append-nil vs))) in
      rw all refl

  pub Spells-shorter : (v : V) (next : Place) → IsLocal read → read at.rest ≡ Ok (v, next.rest) → whole next ≡ whole at
      → length next.before ≢ length at.before → length next.rest < length at.rest
  Spells-shorter v next local e same place_after =
      let front = local at.rest next.rest v e in
      let len : length at.rest ≡ length front.0 + length next.rest = ap length front.1
      ∙ length-append front.0 next.rest in
      let total : length next.before + length next.rest ≡ length at.before + length at.rest =
      sym (length-append next.before next.rest) ∙ ap length same ∙ length-append at.before at.rest in
      omega (arith, len, total, place_after)

  pub Spells-more : (v : V) (next : Place) → IsLocal read → read at.rest ≡ Ok (v, next.rest) → whole next ≡ whole at
      → length next.before ≢ length at.before → Spells read bytes (vs ++ v ∷ []) next
  Spells-more v next local e same place_after =
      let shorter = Spells-shorter v next local e same place_after in
      let count : length (vs ++ v ∷ []) ≡ length vs + 1 = length-append vs (v ∷ []) in
      let step : length bytes - length vs ≡ suc (length bytes - length (vs ++ v ∷ [])) =
      omega (arith, so_far.room, shorter, count) in
      record {
        place = same ∙ so_far.place;
        room = omega (arith, so_far.room, shorter, count);
        others = sym (regroup vs v (elements_by read (InvalidInput (length bytes))
            (length bytes - length (vs ++ v ∷ [])) next.rest))
            ∙ ap (with_front vs) (sym (one_more read (InvalidInput (length bytes))
            (length bytes - length (vs ++ v ∷ [])) at.rest next.rest v e shorter))
            ∙ ap (λ (fuel : ℕ). with_front vs (elements_by read (InvalidInput (length bytes)) fuel at.rest)) (sym step)
            ∙ so_far.others;
      }

  some_left : length at.before < length bytes → 0 < length at.rest
  some_left lt = omega (arith, ap length so_far.place, length-append at.before at.rest)

  pub Spells-refused : (e : DeError) → length at.before < length bytes → read at.rest ≡ Err e
      → elements_by read (InvalidInput (length bytes)) (length bytes) bytes ≡ Err e
  Spells-refused e lt h =
      let some = some_left lt in
      let step : length bytes - length vs ≡ suc (length bytes - length vs - 1) = omega (arith, so_far.room, some) in
      sym so_far.others ∙ (rw (
        step,
        none_read read (InvalidInput (length bytes))
            (length bytes - length vs - 1) at.rest e h some,
      ) refl)

  pub Spells-stuck : (v : V) (next : Place) → length at.before < length bytes → read at.rest ≡ Ok (v, next.rest)
      → whole next ≡ whole at → length next.before ≡ length at.before
      → elements read bytes ≡ Err (InvalidInput (length bytes))
  Spells-stuck v next lt e same stays =
      let some = some_left lt in
      let total : length next.before + length next.rest ≡ length at.before + length at.rest =
      sym (length-append next.before next.rest) ∙ ap length same ∙ length-append at.before at.rest in
      let step : length bytes - length vs ≡ suc (length bytes - length vs - 1) = omega (arith, so_far.room, some) in
      let all : elements_by read (InvalidInput (length bytes)) (length bytes) bytes
      ≡ Err (InvalidInput (length bytes)) = sym so_far.others
      ∙ (rw (
        step,
        none_taken read (InvalidInput (length bytes))
            (length bytes - length vs - 1) at.rest next.rest v e some (omega (arith, total, stays)),
      ) refl) in
      rw all refl

-- a refusal that does not report memory is its own
refuses_self : (A : Type 0) (memory : Type 0) (e : DeError) → e ≢ Memory → Refuses {A = A} (Err e) memory e
refuses_self A memory (Msg m) h = refl
refuses_self A memory (Io k) h = refl
refuses_self A memory (Utf8 u) h = refl
refuses_self A memory (InvalidInput n) h = refl
refuses_self A memory Memory h = absurd (h refl)

refusal_within_cases : (n : ℕ) (b : Bool) (e : DeError) → e ≢ Memory → cond b (InvalidInput n) e ≢ Memory
refusal_within_cases n true e h f = cc
refusal_within_cases n false e h f = h f

-- a refusal is passed on
passed : {A : Type 0} (memory : Type 0) (n : ℕ) (all : Result A DeError) (e : DeError) → e ≢ Memory → all ≡ Err e
    → Refuses (map_refusal (refusal_within n) all) memory (refusal_within n e)
passed {A} memory n all e h is = rw is (refuses_self A memory (refusal_within n e)
    (refusal_within_cases n (is_short e) e h))

-- the refusal of an element is that of the list
pub elements-refused : {V : Type 0} (read : List ℕ → Reading V) (bytes : List ℕ) (vs : List V) (at : Place)
    (memory : Type 0) (e : DeError) → Spells read bytes vs at → length at.before < length bytes
    → Refuses (read at.rest) memory e → Refuses (elements read bytes) (0 < length bytes)
    (refusal_within (length bytes) e)
elements-refused read bytes vs at memory (Msg m) s lt h =
    passed (0 < length bytes) (length bytes) _ (Msg m) (λ f. cc) (Spells-refused read bytes vs at s (Msg m) lt h)
elements-refused read bytes vs at memory (Io k) s lt h =
    passed (0 < length bytes) (length bytes) _ (Io k) (λ f. cc) (Spells-refused read bytes vs at s (Io k) lt h)
elements-refused read bytes vs at memory (Utf8 u) s lt h =
    passed (0 < length bytes) (length bytes) _ (Utf8 u) (λ f. cc) (Spells-refused read bytes vs at s (Utf8 u) lt h)
elements-refused read bytes vs at memory (InvalidInput n) s lt h =
    passed (0 < length bytes) (length bytes) _ (InvalidInput n) (λ f. cc)
    (Spells-refused read bytes vs at s (InvalidInput n) lt h)
elements-refused read bytes vs at memory Memory s lt h = omega arith
