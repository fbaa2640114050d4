-- A list against a policy, entry by entry.
use Rattle.std.proofs.Common.{◌≡◌, ℕ, zero, suc, ◌+◌, List, Some, None, length}
use Rattle.std.proofs.Common.{refl}
use Rattle.neli_tables_check.specs.Cuts.{behind, entry_size}
use Rattle.neli_tables_check.specs.declared.policies.Reply.{Reply}
use Rattle.neli_tables_check.specs.declared.policies.Ruled.{Ruled}
use Rattle.neli_tables_check.specs.declared.policies.Unmet.{Unmet}
use Rattle.neli_tables_check.specs.Policies.{Deeper, deeper_at, entry_unmet, left_unmet, list_unmet, rest_unmet}
use Rattle.neli_tables_check.proofs.Steps.{one_more}

module _ (deeper : Deeper) (replies : List Reply) (ruled : Ruled) (end : ℕ) where
  pub left_none : (n : ℕ) (bytes : List ℕ) → entry_size 4 bytes ≡ None
      → left_unmet deeper replies ruled end n bytes ≡ rest_unmet ruled end bytes
  unfolding left_unmet
  left_none zero bytes e = refl
  left_none (suc n) bytes e = rw e refl

  pub left_zero : (n : ℕ) (bytes : List ℕ) → n ≡ 0
      → left_unmet deeper replies ruled end n bytes ≡ rest_unmet ruled end bytes
  unfolding left_unmet
  left_zero n bytes e = rw e refl

  pub left_some : (n later size : ℕ) (bytes : List ℕ) (u : Unmet) → later + 1 ≡ n
      → entry_size 4 bytes ≡ Some size
      → entry_unmet deeper replies ruled end size bytes ≡ Some u
      → left_unmet deeper replies ruled end n bytes ≡ Some u
  unfolding left_unmet
  left_some n later size bytes u one e is = rw (one_more n later one) (rw e (rw is refl))

  pub left_next : (n later size : ℕ) (bytes : List ℕ) → later + 1 ≡ n
      → entry_size 4 bytes ≡ Some size
      → entry_unmet deeper replies ruled end size bytes ≡ None
      → left_unmet deeper replies ruled end n bytes
      ≡ left_unmet deeper replies ruled end later (behind size bytes)
  unfolding left_unmet
  left_next n later size bytes one e is = rw (one_more n later one) (rw e (rw is refl))

-- a list, as what is left of it at first
pub list_left : (replies : List Reply) (depth : ℕ) (ruled : Ruled) (end : ℕ) (bytes : List ℕ)
    → list_unmet replies depth ruled end bytes
    ≡ left_unmet (deeper_at replies depth) replies ruled end (length bytes) bytes
unfolding list_unmet
list_left replies zero ruled end bytes = refl
list_left replies (suc depth) ruled end bytes = refl

-- a list in another
pub deeper_is : (replies : List Reply) (depth later : ℕ) → later + 1 ≡ depth
    → deeper_at replies depth ≡ Some (list_unmet replies later)
deeper_is replies depth later one = rw (one_more depth later one) refl

pub no_deeper : (replies : List Reply) (depth : ℕ) → depth ≡ 0 → deeper_at replies depth ≡ None
no_deeper replies depth e = rw e refl
