-- What is found first among lines is what is found first among what is seen of them.
use Rattle.std.proofs.Common.{◌≡◌, ◌∙◌, ◌+◌, Bool, true, false, not, List, [], ◌∷◌, length, map}
use Rattle.std.proofs.Common.{Option, Some, None, cond, nat_lt, refl, ap, sym}
use Rattle.std.proofs.lemmas.List.{length-map}
use Rattle.std.specs.Borrow.{Bor}
use Rattle.std.specs.List.{find, position, prefix_len}
use Rattle.std.specs.Option.{option_copied, option_map}

choice : {A B : Type 0} (view : A → B) (b : Bool) (x : A) (later : Option B) (later' : Option A)
    → later ≡ option_map view later' → cond b (Some (view x)) later ≡ option_map view (cond b (Some x) later')
choice view true x later later' same = refl
choice view false x later later' same = same

find-map : {A B : Type 0} (view : A → B) (p : B → Bool) (xs : List A)
    → find p (map view xs) ≡ option_map view (find (λ x. p (view x)) xs)
find-map view p [] = refl
find-map view p (x ∷ xs) =
    choice view (p (view x)) x (find p (map view xs)) (find (λ y. p (view y)) xs) (find-map view p xs)

prefix_len-map : {A B : Type 0} (view : A → B) (p : B → Bool) (xs : List A)
    → prefix_len p (map view xs) ≡ prefix_len (λ x. p (view x)) xs
prefix_len-map view p [] = refl
prefix_len-map view p (x ∷ xs) = ap (λ n. cond (p (view x)) (1 + n) 0) (prefix_len-map view p xs)

pub position-map : {A B : Type 0} (view : A → B) (p : B → Bool) (xs : List A)
    → position p (map view xs) ≡ position (λ x. p (view x)) xs
position-map view p xs =
    ap (λ n. cond (nat_lt n (length (map view xs))) (Some n) None) (prefix_len-map view (λ y. not (p y)) xs)
    ∙ ap (λ n. cond (nat_lt (prefix_len (λ x. not (p (view x))) xs) n)
    (Some (prefix_len (λ x. not (p (view x))) xs)) None) (length-map xs view)

lent-seen : {A B : Type 0} (view : A → B) (o : Option (Bor A))
    → option_map (λ x. view x.now) o ≡ option_map view (option_copied o)
lent-seen view None = refl
lent-seen view (Some x) = refl

-- what is lent of the first that passes
pub first-seen : {A B : Type 0} (view : A → B) (p : B → Bool) (xs : List A) (o : Option (Bor A))
    → option_copied o ≡ find (λ x. p (view x)) xs → option_map (λ x. view x.now) o ≡ find p (map view xs)
first-seen view p xs o found = lent-seen view o ∙ ap (option_map view) found ∙ sym (find-map view p xs)
