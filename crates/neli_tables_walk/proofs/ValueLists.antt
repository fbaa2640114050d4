-- Texts that are written one after the other.
use Rattle.std.proofs.Common.{◌≡◌, ℕ, zero, suc, ◌+◌, ◌<◌, ◌≤◌, List, [], ◌∷◌, ◌++◌, length}
use Rattle.std.proofs.Common.{take, drop, map}
use Rattle.std.proofs.Common.{refl, sym, ap, ◌∙◌, append_assoc, append-nil, arith, get_or}
use Rattle.std.proofs.Common.{length-append, length-drop}
use Rattle.std.specs.Prelude.{min, max}
use Rattle.std.specs.List.{flat_map}
use Rattle.std.proofs.lemmas.List.{drop_more, get_or-map, length-map, nil_from_length}
use Rattle.neli_tables_walk.specs.Lists.{joined, parts_by, parts_of}

-- ---- with another text between them

-- texts, the first after one text and each later one after another
abbrev pub after : List ℕ → List ℕ → List (List ℕ) → List ℕ
after between first [] = []
after between first (t ∷ ts) = first ++ (t ++ flat_map (λ u. between ++ u) ts)

pub after-first : (between : List ℕ) (ts : List (List ℕ)) → after between [] ts ≡ joined between ts
after-first between [] = refl
after-first between (t ∷ ts) = refl

after-later : (between : List ℕ) (ts : List (List ℕ))
    → after between between ts ≡ flat_map (λ u. between ++ u) ts
after-later between [] = refl
after-later between (t ∷ ts) = sym (append_assoc between t (flat_map (λ u. between ++ u) ts))

-- one of them is written
pub after-step :
    (between first done t total : List ℕ) (ts : List (List ℕ)) → done
    ++ after between first (t ∷ ts) ≡ total
    → (done ++ (first ++ t)) ++ after between between ts ≡ total
after-step between first done t total ts so_far =
    let later = flat_map (λ u. between ++ u) ts in
    ap (λ l. (done ++ (first ++ t)) ++ l) (after-later between ts)
    ∙ append_assoc done (first ++ t) later
    ∙ ap (λ l. done ++ l) (append_assoc first t later) ∙ so_far

-- one text of a plain list is written
pub flat-step : {A : Type 0} (f : A → List ℕ) (done total : List ℕ) (x : A) (xs : List A)
    → done ++ flat_map f (x ∷ xs) ≡ total → (done ++ f x) ++ flat_map f xs ≡ total
flat-step f done total x xs so_far = append_assoc done (f x) (flat_map f xs) ∙ so_far

-- ---- by the rows that are left

-- the rows from an index on begin with the one there
pub rows-here : {A B : Type 0} (view : A → B) (xs : List A) (i : ℕ) (x : A) → i < length xs
    → x ≡ get_or xs i x
    → drop i (map view xs) ≡ view x ∷ drop (i + 1) (map view xs)
rows-here view xs i x within at =
    drop_more (map view xs) i (view x) (omega (arith, within, length-map xs view))
    ∙ ap (λ y. y ∷ drop (i + 1) (map view xs)) (get_or-map view xs i x (view x) within
    ∙ ap view (sym at))

-- none are left
pub rows-done : {A B : Type 0} (view : A → B) (xs : List A) (i : ℕ) → length xs ≤ i
    → drop i (map view xs) ≡ []
rows-done view xs i past =
    nil_from_length (drop i (map view xs))
    (omega (arith, past, length-drop i (map view xs), length-map xs view))

-- ---- parts of bytes

-- more fuel than bytes makes no difference
enough : (n m size : ℕ) (bytes : List ℕ) → 0 < size → length bytes ≤ n → length bytes ≤ m
    → parts_by n size bytes ≡ parts_by m size bytes
enough zero zero size [] some p q = refl
enough zero (suc m) size [] some p q = refl
enough (suc n) zero size [] some p q = refl
enough (suc n) (suc m) size [] some p q = refl
enough zero m size (b ∷ bytes) some p q = absurd (omega (arith, p))
enough (suc n) zero size (b ∷ bytes) some p q = absurd (omega (arith, q))
enough (suc n) (suc m) size (b ∷ bytes) some p q =
    ap (λ l. take size (b ∷ bytes) ∷ l)
    (enough n m size (drop size (b ∷ bytes)) some
    (omega (arith, p, some, length-drop size (b ∷ bytes)))
    (omega (arith, q, some, length-drop size (b ∷ bytes))))

take-part : (size : ℕ) (part rest : List ℕ) → length part ≡ min size (length (part ++ rest))
    → take size (part ++ rest) ≡ part
take-part zero [] rest is = refl
take-part (suc n) [] [] is = refl
take-part (suc n) [] (b ∷ rest) is = absurd (omega (arith, is))
take-part zero (b ∷ part) rest is = absurd (omega (arith, is))
take-part (suc n) (b ∷ part) rest is = ap (λ l. b ∷ l) (take-part n part rest (omega (arith, is)))

drop-part : (size : ℕ) (part rest : List ℕ) → length part ≡ min size (length (part ++ rest))
    → drop size (part ++ rest) ≡ rest
drop-part zero [] rest is = refl
drop-part (suc n) [] [] is = refl
drop-part (suc n) [] (b ∷ rest) is = absurd (omega (arith, is))
drop-part zero (b ∷ part) rest is = absurd (omega (arith, is))
drop-part (suc n) (b ∷ part) rest is = drop-part n part rest (omega (arith, is))

first-part :
    (size : ℕ) (part rest : List ℕ) → 0 < size → length part ≡ min size (length (part ++ rest))
    → 0 < length (part ++ rest)
    → parts_by (length (part ++ rest)) size (part ++ rest) ≡ part ∷ parts_by (length rest) size rest
first-part size [] rest some is long = absurd (omega (arith, is, some, long))
first-part size (b ∷ part) rest some is long =
    ap (λ l. l ∷ parts_by (length (part ++ rest)) size (drop size (b ∷ (part ++ rest))))
    (take-part size (b ∷ part) rest is)
    ∙ ap (λ l. (b ∷ part) ∷ parts_by (length (part ++ rest)) size l) (drop-part size
    (b ∷ part) rest is)
    ∙ ap (λ l. (b ∷ part) ∷ l)
    (enough (length (part ++ rest)) (length rest) size rest some
    (omega (arith, length-append part rest)) (omega arith))

-- the first part, and those behind it
pub parts-step :
    (size : ℕ) (all part rest : List ℕ) → all ≡ part ++ rest → length part ≡ min (max size 1)
    (length all)
    → 0 < length all → parts_of size all ≡ part ∷ parts_of size rest
unfolding parts_of
parts-step size all part rest is long some =
    ap (λ l. parts_by (length l) (max size 1) l) is
    ∙ first-part (max size 1) part rest (omega arith)
    (long ∙ ap (λ (l : List ℕ). min (max size 1) (length l)) is)
    (omega (arith, some, ap length is))

pub parts-none : (size : ℕ) (all : List ℕ) → length all ≡ 0 → parts_of size all ≡ []
unfolding parts_of
parts-none size [] none = refl
parts-none size (b ∷ bytes) none = absurd (omega (arith, none))

-- ---- a loop over parts: one is written

pub parts-flat-step :
    (f : List ℕ → List ℕ) (size n : ℕ) (all part rest done total : List ℕ) → n ≡ max size 1
    → all ≡ part ++ rest → length part ≡ min n (length all) → 0 < length all
    → done ++ flat_map f (parts_of size all) ≡ total
    → (done ++ f part) ++ flat_map f (parts_of size rest) ≡ total
parts-flat-step f size n all part rest done total least is long some so_far =
    flat-step f done total part (parts_of size rest)
    (ap (λ l. done ++ flat_map f l)
    (sym (parts-step size all part rest is (long ∙ ap (λ k. min k (length all)) least) some))
    ∙ so_far)

pub parts-after-step :
    (f : List ℕ → List ℕ) (between first : List ℕ) (size n : ℕ) (all part rest done total : List ℕ)
    → n ≡ max size 1 → all ≡ part ++ rest → length part ≡ min n (length all) → 0 < length all
    → done ++ after between first (map f (parts_of size all)) ≡ total
    → (done ++ (first ++ f part)) ++ after between between (map f (parts_of size rest)) ≡ total
parts-after-step f between first size n all part rest done total least is long some so_far =
    after-step between first done (f part) total (map f (parts_of size rest))
    (ap (λ l. done ++ after between first (map f l))
    (sym (parts-step size all part rest is (long ∙ ap (λ k. min k (length all)) least) some))
    ∙ so_far)

-- all are written

pub parts-flat-done :
    (f : List ℕ → List ℕ) (size : ℕ) (rest done total : List ℕ) → length rest ≡ 0
    → done ++ flat_map f (parts_of size rest) ≡ total → done ≡ total
parts-flat-done f size rest done total none so_far =
    sym (append-nil done) ∙ ap (λ l. done ++ flat_map f l) (sym (parts-none size rest none))
    ∙ so_far

pub parts-after-done :
    (f : List ℕ → List ℕ) (between first : List ℕ) (size : ℕ) (rest done total : List ℕ)
    → length rest ≡ 0
    → done ++ after between first (map f (parts_of size rest)) ≡ total → done ≡ total
parts-after-done f between first size rest done total none so_far =
    sym (append-nil done) ∙ ap (λ l. done ++ after between first (map f l)) (sym
    (parts-none size rest none))
    ∙ so_far

-- ---- a loop over rows: one is written

pub rows-flat-step :
    {A B : Type 0} (f : B → List ℕ) (view : A → B) (xs : List A) (i : ℕ) (x : A)
    (done total : List ℕ)
    → i < length xs → x ≡ get_or xs i x → done ++ flat_map f (drop i (map view xs)) ≡ total
    → (done ++ f (view x)) ++ flat_map f (drop (i + 1) (map view xs)) ≡ total
rows-flat-step f view xs i x done total within at so_far =
    flat-step f done total (view x) (drop (i + 1) (map view xs))
    (ap (λ l. done ++ flat_map f l) (sym (rows-here view xs i x within at)) ∙ so_far)

-- `h` makes of the texts of the rows those that are written
module _ {A B : Type 0} (m : B → List (List ℕ)) (h : List (List ℕ) → List (List ℕ)) (view : A → B)
    (xs : List A) (i : ℕ) (x : A) (within : i < length xs) (at : x ≡ get_or xs i x) where
  here : (texts : List (List ℕ)) → m (view x) ≡ texts
      → h (flat_map m (drop i (map view xs))) ≡ h (texts ++ flat_map m (drop (i + 1) (map view xs)))
  here texts is =
      ap (λ l. h (flat_map m l)) (rows-here view xs i x within at)
      ∙ ap (λ l. h (l ++ flat_map m (drop (i + 1) (map view xs)))) is

  pub rows-after-step :
      (between first done total text written : List ℕ) → m (view x) ≡ text ∷ []
      → ((ts : List (List ℕ)) → h (text ∷ ts) ≡ written ∷ h ts)
      → done ++ after between first (h (flat_map m (drop i (map view xs)))) ≡ total
      → (done ++ (first ++ written)) ++ after between between (h (flat_map m (drop (i + 1)
      (map view xs))))
      ≡ total
  rows-after-step between first done total text written is so so_far =
      after-step between first done written total (h (flat_map m (drop (i + 1) (map view xs))))
      (ap (λ l. done ++ after between first l)
      (sym (here (text ∷ []) is ∙ so (flat_map m (drop (i + 1) (map view xs))))) ∙ so_far)

  pub rows-after-skip :
      (between first done total : List ℕ) → m (view x) ≡ []
      → done ++ after between first (h (flat_map m (drop i (map view xs)))) ≡ total
      → done ++ after between first (h (flat_map m (drop (i + 1) (map view xs)))) ≡ total
  rows-after-skip between first done total is so_far =
      ap (λ l. done ++ after between first l) (sym (here [] is)) ∙ so_far

-- the last text is written, which is none of a row
pub rows-after-last :
    {A B : Type 0} (m : B → List (List ℕ)) (h : List (List ℕ) → List (List ℕ)) (view : A
    → B) (xs : List A)
    (i : ℕ) (between first done total written : List ℕ) → length xs ≤ i → h [] ≡ written ∷ []
    → done ++ after between first (h (flat_map m (drop i (map view xs)))) ≡ total
    → done ++ (first ++ written) ≡ total
rows-after-last m h view xs i between first done total written past is so_far =
    ap (λ l. done ++ (first ++ l)) (sym (append-nil written))
    ∙ ap (λ l. done ++ after between first l)
    (sym (ap (λ l. h (flat_map m l)) (rows-done view xs i past) ∙ is)) ∙ so_far
