-- Laws of tables of named numbers; each table cites them.
use Rattle.std.specs.Prelude.{◌≡◌, ℕ, ℤ, nat_eq, Bool, true, false, List}
use Rattle.std.specs.Prelude.{[], ◌∷◌, find, unwrap_or, if◌then◌else◌, Some, refl}
use Rattle.std.specs.Ordering.{int_eq}
use Rattle.std.proofs.lemmas.Bool.{eqb-true}
use Rattle.std.proofs.lemmas.Bool.Decides.{Decides-int_eq}
use Rattle.neli_wire.specs.Constants.{first_by, first_with, first_with_int, first_recognized, EachHas}

-- in every table, the value found for a number has that number
pub first_by-number : {A N : Type 0} (same : N → N → Bool) → ((a b : N) → same a b ≡ true → a ≡ b)
    → (number_of : A → N) (variants : List A) (unrecognized : N → A) → ((n : N) → number_of (unrecognized n) ≡ n)
    → (n : N) → number_of (first_by same number_of variants unrecognized n) ≡ n
first_by-number same exact number_of [] unrecognized own n = own n
first_by-number same exact number_of (v ∷ rest) unrecognized own n =
    cases (same (number_of v) n) (exact (number_of v) n) (first_by-number same exact number_of rest unrecognized own n)
  where
    cases : (b : Bool) → (b ≡ true → number_of v ≡ n) → number_of (first_by same number_of rest unrecognized n) ≡ n
        → number_of (unwrap_or (if b then Some v else find (λ w. same (number_of w) n) rest) (unrecognized n)) ≡ n
    cases true here later = here refl
    cases false here later = later

pub first_with-number : {A : Type 0} (number_of : A → ℕ) (variants : List A) (unrecognized : ℕ → A)
    → ((n : ℕ) → number_of (unrecognized n) ≡ n) → (n : ℕ)
    → number_of (first_with number_of variants unrecognized n) ≡ n
first_with-number = first_by-number nat_eq eqb-true

pub first_with_int-number : {A : Type 0} (number_of : A → ℤ) (variants : List A) (unrecognized : ℤ → A)
    → ((n : ℤ) → number_of (unrecognized n) ≡ n) → (n : ℤ)
    → number_of (first_with_int number_of variants unrecognized n) ≡ n
first_with_int-number = first_by-number int_eq (λ a b. (Decides-int_eq a b).0)

-- where each reading has a number, the first that has a name does too
pub first_recognized-number : {A N : Type 0} (number_of : A → N) (readings : List (Bool × A)) (unrecognized : A) (n : N)
    → EachHas number_of readings n → number_of unrecognized ≡ n → number_of (first_recognized readings unrecognized) ≡ n
first_recognized-number number_of [] unrecognized n all own = own
first_recognized-number number_of (here ∷ later) unrecognized n all own =
    cases here.0 all.0 (first_recognized-number number_of later unrecognized n all.1 own)
  where
    cases : (b : Bool) → number_of here.1 ≡ n → number_of (first_recognized later unrecognized) ≡ n
        → number_of (if b then here.1 else first_recognized later unrecognized) ≡ n
    cases true first rest = first
    cases false first rest = rest
