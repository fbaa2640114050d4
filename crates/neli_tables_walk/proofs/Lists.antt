-- What lists are made of, one element after the other.
use Rattle.std.proofs.Common.{◌≡◌, ◌≢◌, ◌∙◌, ℕ, zero, suc, ◌<◌, ◌≤◌, Bool, true, false, List, []}
use Rattle.std.proofs.Common.{◌∷◌, length}
use Rattle.std.proofs.Common.{cond, Some, None, Ok, Err, refl, ap, arith}
use Rattle.std.specs.Prelude.{nat_lt}
use Rattle.std.proofs.lemmas.Bool.{ltb-false}
use Rattle.neli_attr.specs.laws.Attributes.{attribute-placed}
use Rattle.neli_attr.specs.TypeField.{type_of}
use Rattle.neli_reader.specs.laws.Cuts.{frame_at-longer}
use Rattle.neli_wire.specs.Bytes.{Reading}
use Rattle.neli_wire.specs.declared.errors.DeError.{DeError}
use Rattle.neli_wire.specs.Frames.{frame_at}
use Rattle.neli_wire.specs.laws.Frames.{IsPlaced, number_in-take}
use Rattle.neli_tables_walk.specs.declared.level.Sort.{Sort}
use Rattle.neli_tables_walk.specs.Elements.{Elem, Elements, Lent, attribute_layout, attribute_read}
use Rattle.neli_tables_walk.specs.Elements.{element_at, element_before}
use Rattle.neli_tables_walk.specs.Elements.{elements_by, elements_from, elements_of, hop_layout}
use Rattle.neli_tables_walk.specs.Elements.{hop_read, hop_size}

-- ---- an element takes at least a byte

hop_size-some : (header : ℕ) → 2 ≤ hop_size header
hop_size-some header = by (nat_lt header 4) refl
  where
    by : (b : Bool) → nat_lt header 4 ≡ b → 2 ≤ cond b 4 header
    by true e = omega arith
    by false e = omega (arith, ltb-false header 4 e)

hop-placed : (header : ℕ) → IsPlaced (hop_layout header)
hop-placed header = record {
  own = λ s le. number_in-take 2 0 (hop_size header) s (omega (arith, hop_size-some header)) le;
}

-- what follows an element that was read
abbrev rest_of : Reading Elem → List ℕ
rest_of (Ok r) = r.1
rest_of (Err e) = []

attribute-shorter : (s r : List ℕ) (e : Elem) (found : Reading Lent)
    → frame_at attribute_layout s ≡ found → attribute_read found ≡ Ok (e, r) → length r < length s
attribute-shorter s r e (Ok p) is read =
    let same : p.1 ≡ r = ap rest_of read in
    let placed = attribute-placed (type_of (λ n. n)) _ in
    let long = frame_at-longer attribute_layout placed (omega arith) s p.1 p.0 is in
    omega (arith, long, ap length same)
attribute-shorter s r e (Err x) is read = absurd cc

hop-shorter : (header : ℕ) (s r : List ℕ) (e : Elem) (found : Reading (ℕ × List ℕ))
    → frame_at (hop_layout header) s ≡ found → hop_read s found ≡ Ok (e, r) → length r < length s
hop-shorter header s r e (Ok p) is read =
    let same : p.1 ≡ r = ap rest_of read in
    let two = hop_size-some header in
    let long =
    frame_at-longer (hop_layout header) (hop-placed header) (omega (arith, two)) s p.1 p.0 is in
    omega (arith, long, hop_size-some header, ap length same)
hop-shorter header s r e (Err x) is read = absurd cc

pub shorter : (sort : Sort) (s r : List ℕ) (e : Elem) → element_at sort s ≡ Ok (e, r)
    → length r < length s
shorter sort s r e is = by sort.is_hops is
  where
    by : (b : Bool) → cond b (hop_read s (frame_at (hop_layout sort.nest.header) s))
        (attribute_read (frame_at attribute_layout s)) ≡ Ok (e, r) → length r < length s
    by true is = hop-shorter sort.nest.header s r e _ refl is
    by false is = attribute-shorter s r e _ refl is

-- ---- the elements of a list

module _ (sort : Sort) where
  -- what begins with a reading is the same by any measure that is enough for its rest
  from_same : (s : List ℕ) (read : Reading Elem) (f g : List ℕ → Elements)
      → element_at sort s ≡ read → ((t : List ℕ) → length t < length s → f t ≡ g t)
      → elements_from s read f ≡ elements_from s read g
  from_same s (Err e) f g is same = refl
  from_same s (Ok p) f g is same = ap (element_before p.0) (same p.1 (shorter sort s p.1 p.0 is))

  enough : (n m : ℕ) (s : List ℕ) → length s ≤ n → length s ≤ m
      → elements_by sort n s ≡ elements_by sort m s
  unfolding elements_by
  enough zero zero s p q = refl
  enough zero (suc m) [] p q = refl
  enough (suc n) zero [] p q = refl
  enough (suc n) (suc m) [] p q = refl
  enough zero (suc m) (b ∷ s) p q = absurd (omega (arith, p))
  enough (suc n) zero (b ∷ s) p q = absurd (omega (arith, q))
  enough (suc n) (suc m) (b ∷ s) p q =
      from_same (b ∷ s) (element_at sort (b ∷ s)) (elements_by sort n) (elements_by sort m) refl
      (λ t lt. enough n m t (omega (arith, p, lt)) (omega (arith, q, lt)))

  unfold_one : (b : ℕ) (s : List ℕ)
      → elements_of sort (b ∷ s)
      ≡ elements_from (b ∷ s) (element_at sort (b ∷ s)) (elements_of sort)
  unfolding elements_by elements_of
  unfold_one b s =
      from_same (b ∷ s) (element_at sort (b ∷ s)) (elements_by sort (length s)) (elements_of sort)
      refl (λ t lt. enough (length s) (length t) t (omega (arith, lt)) (omega arith))

  pub elements-end : (s : List ℕ) → s ≡ [] → elements_of sort s ≡ ([], None)
  unfolding elements_by elements_of
  elements-end s e = rw e refl

  pub elements-more : (s r : List ℕ) (e : Elem) → element_at sort s ≡ Ok (e, r)
      → elements_of sort s ≡ element_before e (elements_of sort r)
  elements-more [] r e is = absurd (omega (arith, shorter sort [] r e is))
  elements-more (b ∷ s) r e is =
      unfold_one b s ∙ ap (λ read. elements_from (b ∷ s) read (elements_of sort)) is

  pub elements-fault : (s : List ℕ) (e : DeError) → s ≢ [] → element_at sort s ≡ Err e
      → elements_of sort s ≡ ([], Some (s, e))
  elements-fault [] e any is = absurd (any refl)
  elements-fault (b ∷ s) e any is =
      unfold_one b s ∙ ap (λ read. elements_from (b ∷ s) read (elements_of sort)) is
