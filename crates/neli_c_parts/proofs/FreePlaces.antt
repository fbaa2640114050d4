-- The free places of handles, and how a store at one place changes them.
use Rattle.std.proofs.Common.{◌≡◌, ◌≢◌, ◌<◌, ℕ, List, [], ◌∷◌, ◌++◌, length, length-set, Option, Some}
use Rattle.std.proofs.Common.{None, slice_get}
use Rattle.std.proofs.Common.{slice_set, arith, refl, suc, sym, subst, ap, ◌∙◌, zero}
use Rattle.std.proofs.lemmas.List.{set-set}
use Rattle.std.proofs.lemmas.Option.{slice_get_past}
use Rattle.neli_router.specs.declared.handle.HandleState.{HandleState}
use Rattle.neli_c_parts.specs.declared.session.Slot.{Slot}
use Rattle.neli_c_parts.specs.declared.session.Slot.TheVariants as slot
use Rattle.neli_c_parts.specs.Slots.{AreFree, IsApart, handle_at, handle_in, later_places, next_place}

-- a stored value stands at its place
pub get-set : {X : Type 0} (xs : List X) (k : ℕ) (x : X) → k < length xs → slice_get (slice_set xs k x) k ≡ Some x
get-set [] k x within = absurd (omega (arith, within))
get-set (y ∷ ys) zero x within = refl
get-set (y ∷ ys) (suc k) x within = get-set ys k x (omega (arith, within))

-- and all else is unchanged
pub get-other : {X : Type 0} (xs : List X) (j k : ℕ) (x : X) → j ≢ k → slice_get (slice_set xs k x) j ≡ slice_get xs j
get-other [] j k x apart = refl
get-other (y ∷ ys) zero zero x apart = absurd (apart refl)
get-other (y ∷ ys) zero (suc k) x apart = refl
get-other (y ∷ ys) (suc j) zero x apart = refl
get-other (y ∷ ys) (suc j) (suc k) x apart = get-other ys j k x (λ e. apart (ap suc e))

in-open : (o : Option Slot) (h : HandleState) → handle_in o ≡ Some h → o ≡ Some (slot.Open h)
in-open (Some (slot.Open g)) h e = (let same : g ≡ h = cc in ap (λ (x : HandleState). Some (slot.Open x)) same)
in-open (Some (slot.Free n)) h e = absurd cc
in-open None h e = absurd cc

-- a store at another place leaves free places free
pub free-set : (slots : List Slot) (first : ℕ) (ks : List ℕ) (k : ℕ) (x : Slot) → AreFree slots first ks → IsApart k ks
    → AreFree (slice_set slots k x) first ks
free-set slots first [] k x free apart = free
free-set slots first (j ∷ later) k x free apart = (
  free.0,
  free.1,
  free.2,
  (
    free.3.0,
    get-other slots j k x apart.0 ∙ free.3.1,
    free-set slots free.3.0 later k x free.3.2 apart.1,
  ),
)

-- the place of a handle is none of them
pub open-apart : (slots : List Slot) (first : ℕ) (ks : List ℕ) (k : ℕ) (h : HandleState) → AreFree slots first ks
    → handle_at k slots ≡ Some h → IsApart k ks
open-apart slots first [] k h free is = tt
open-apart slots first (j ∷ later) k h free is = (
  λ same. (let bad : Some (slot.Free free.3.0) ≡ Some (slot.Open h) = sym free.3.1
      ∙ ap (λ (i : ℕ). slice_get slots i) same ∙ in-open (slice_get slots k) h is in absurd cc),
  open-apart slots free.3.0 later k h free.3.2 is,
)

-- a read leaves them free
pub free-read : (slots : List Slot) (first : ℕ) (ks : List ℕ) (k : ℕ) (h : HandleState) (x : Slot)
    → handle_at k slots ≡ Some h → AreFree slots first ks → AreFree (slice_set slots k x) first ks
free-read slots first ks k h x is free = free-set slots first ks k x free (open-apart slots first ks k h free is)

-- and so does a handle that is taken out of its place and put back, as it is after the call
pub put-back : (slots out : List Slot) (first now k : ℕ) (h after : HandleState) → handle_at k slots ≡ Some h
    → out ≡ slice_set slots k (slot.Free 0) → now ≡ first
    → (slice_set out k (slot.Open after) ≡ slice_set slots k (slot.Open after))
    × ((ks : List ℕ) → AreFree slots first ks → AreFree (slice_set out k (slot.Open after)) now ks)
put-back slots out first now k h after there taken same =
    let put : slice_set out k (slot.Open after) ≡ slice_set slots k (slot.Open after) =
    ap (λ (hs : List Slot). slice_set hs k (slot.Open after)) taken
    ∙ set-set slots k (slot.Free 0) (slot.Open after) in
    (put, λ ks free. rw (put, same) (free-read slots first ks k h (slot.Open after) there free))

-- a freed place is the first of them
pub freed-first : (slots after : List Slot) (first f : ℕ) (ks : List ℕ) (k : ℕ) (h : HandleState) → f ≡ k → k ≢ 0
    → after ≡ slice_set slots k (slot.Free first) → k < length after → handle_at k slots ≡ Some h
    → AreFree slots first ks → AreFree after f (k ∷ ks)
freed-first slots after first f ks k h same some is within there free =
    let size : length after ≡ length slots = ap (λ (hs : List Slot). length hs) is
    ∙ length-set slots k (slot.Free first) in
    let apart = open-apart slots first ks k h free there in
    let all : AreFree (slice_set slots k (slot.Free first)) f (k ∷ ks) = (
      same,
      some,
      apart,
      (
        first,
        get-set slots k (slot.Free first) (omega (arith, size, within)),
        free-set slots first ks k (slot.Free first) free apart,
      ),
    ) in
    subst (λ (hs : List Slot). AreFree hs f (k ∷ ks)) (sym is) all

-- the first of them is used again
taken-again : (slots : List Slot) (first : ℕ) (ks : List ℕ) (next : ℕ) (x : Slot) → first ≢ 0
    → slice_get slots first ≡ Some (slot.Free next) → AreFree slots first ks
    → (first ≡ next_place slots ks) × AreFree (slice_set slots first x) next (later_places ks)
taken-again slots first [] next x some is free = absurd (some free)
taken-again slots first (j ∷ later) next x some is free =
    let both : Some (slot.Free free.3.0) ≡ Some (slot.Free next) = sym free.3.1
    ∙ ap (λ (i : ℕ). slice_get slots i) (sym free.0) ∙ is in
    let same : free.3.0 ≡ next = cc in
    let after = free-set slots free.3.0 later j x free.3.2 free.2 in (
      free.0,
      subst (λ (i : ℕ). AreFree (slice_set slots i x) next later) (sym free.0)
          (subst (λ (n : ℕ). AreFree (slice_set slots j x) n later) same after),
    )

pub given-again : (slots : List Slot) (first k n next : ℕ) (ks : List ℕ) (x : Slot) → k ≡ first → n ≡ next → first ≢ 0
    → slice_get slots first ≡ Some (slot.Free next) → AreFree slots first ks
    → (k ≡ next_place slots ks) × AreFree (slice_set slots k x) n (later_places ks)
given-again slots first k n next ks x same goes some is free =
    let r = taken-again slots first ks next x some is free in (
      same ∙ r.0,
      subst (λ (i : ℕ). AreFree (slice_set slots i x) n (later_places ks)) (sym same)
          (subst (λ (m : ℕ). AreFree (slice_set slots first x) m (later_places ks)) (sym goes) r.1),
    )

get-pushed : {X : Type 0} (xs : List X) (x : X) → slice_get (xs ++ x ∷ []) (length xs) ≡ Some x
get-pushed [] x = refl
get-pushed (y ∷ ys) x = get-pushed ys x

-- a handle at a new place exists, and none did before
pub handle-pushed : (slots : List Slot) (k : ℕ) (h : HandleState) → k ≡ length slots
    → handle_at k (slots ++ slot.Open h ∷ []) ≡ Some h
handle-pushed slots k h is = ap (λ (i : ℕ). handle_at i (slots ++ slot.Open h ∷ [])) is
    ∙ ap handle_in (get-pushed slots (slot.Open h))

pub none-past : (slots : List Slot) (k : ℕ) → k ≡ length slots → handle_at k slots ≡ None
none-past slots k is = ap handle_in (slice_get_past slots k (omega (arith, is)))

-- statements about the same places
pub again : (slots same : List Slot) (first k : ℕ) (ks : List ℕ) (after : List Slot) (next : ℕ) → slots ≡ same
    → (AreFree slots first ks → (k ≡ next_place slots ks) × AreFree after next (later_places ks))
    → AreFree same first ks → (k ≡ next_place same ks) × AreFree after next (later_places ks)
again slots same first k ks after next is says free =
    subst (λ (hs : List Slot). AreFree hs first ks → (k ≡ next_place hs ks)
    × AreFree after next (later_places ks)) is says free
