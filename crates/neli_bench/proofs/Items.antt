-- A sum built item by item, over items of which the last may be a fault.
use Rattle.std.proofs.Common.{◌≡◌, ℕ, ◌+◌, ◌-◌, ◌^◌, ◌≤◌, List, [], ◌∷◌, Option, Some, None, Ok, Err, refl, sym, ap}
use Rattle.std.proofs.Common.{◌∙◌, arith, rules}
use Rattle.std.specs.Prelude.{IsSome, Result, sum_by}
use Rattle.std.proofs.lemmas.List.Sums.{sum_by-cons}
use Rattle.neli_wire.specs.declared.errors.DeError.{DeError}
use Rattle.neli_reader.specs.Cuts.{Cut}
use Rattle.neli_lent.specs.Walks.{items_of}
use Rattle.neli_bench.specs.Walks.{IsSum, as_u64}

-- the share of an item
abbrev pub added : {A : Type 0} → (A → ℕ) → Result A DeError → ℕ
added size (Ok a) = size a
added size (Err e) = 0

-- the first fault among items
abbrev pub fault_among : {A : Type 0} → List (Result A DeError) → Option DeError
fault_among [] = None
fault_among (Ok a ∷ later) = fault_among later
fault_among (Err e ∷ later) = Some e

-- the sum over all items is the sum so far and that over the remaining items
pub record IsItemSum {A : Type 0} (size : A → ℕ) (all left : List (Result A DeError)) (so_far : ℕ) : Type 0 where
  pub fault : fault_among all ≡ fault_among left
  pub total : as_u64 (sum_by (added size) all) ≡ as_u64 (so_far + sum_by (added size) left)
  pub fits : so_far ≤ 2 ^ 64 - 1

items-sum : {A : Type 0} (size : A → ℕ) (values : List A) (fault : Option DeError)
    → sum_by (added size) (items_of (values, fault)) ≡ sum_by size values
items-sum size [] None = refl
items-sum size [] (Some e) = refl
items-sum size (a ∷ later) fault =
    sum_by-cons (added size) (Ok a) (items_of (later, fault)) ∙ ap (λ n. size a + n) (items-sum size later fault)
    ∙ sym (sum_by-cons size a later)

items-fault : {A : Type 0} (values : List A) (fault : Option DeError) → fault_among (items_of (values, fault)) ≡ fault
items-fault [] None = refl
items-fault [] (Some e) = refl
items-fault (a ∷ later) fault = items-fault later fault

pub items_end : {A : Type 0} (size : A → ℕ) (cut : Cut A) (left : List (Result A DeError)) (so_far : ℕ)
    → IsItemSum size (items_of cut) left so_far → left ≡ [] → IsSum size cut so_far
items_end size (values, fault) left so_far is last = (
  sym (items-fault values fault) ∙ is.fault ∙ ap fault_among last,
  sym (ap as_u64 (sym (items-sum size values fault)) ∙ is.total
      ∙ ap (λ items. as_u64 (so_far + sum_by (added size) items)) last ∙ omega (arith, is.fits)),
)

pub items_fault : {A : Type 0} (size : A → ℕ) (cut : Cut A) (left later : List (Result A DeError)) (e : DeError)
    (so_far : ℕ) → IsItemSum size (items_of cut) left so_far → left ≡ Err e ∷ later → IsSome cut.1
items_fault size (values, fault) left later e so_far is first =
    let found : fault ≡ Some e = sym (items-fault values fault) ∙ is.fault ∙ ap fault_among first in
    rw found (search rules)
