-- A list, entry by entry.
use Rattle.std.proofs.Common.{◌≡◌, ℕ, zero, suc, ◌+◌, List, Option, Some, None, length, take}
use Rattle.std.proofs.Common.{refl, arith}
use Rattle.std.specs.Option.{option_map}
use Rattle.neli_tables_walk.specs.declared.item.Step.{Step}
use Rattle.neli_tables_walk.specs.Shapes.{ContextSeen}
use Rattle.neli_tables_check.specs.declared.validation.Validation.{Validation}
use Rattle.neli_tables_check.specs.declared.violation.Violation.{Violation}
use Rattle.neli_tables_check.specs.Cuts.{behind, entry_size, last_among, payload_or}
use Rattle.neli_tables_check.specs.Violations.{Deeper, ListSeen, Where, deeper_at, entry_wrong, front_of, left_wrong}
use Rattle.neli_tables_check.specs.Violations.{list_wrong, rest_wrong, violation_view}

pub one_more : (n later : ℕ) → later + 1 ≡ n → n ≡ suc later
one_more n later e = omega arith

-- ---- the last of equal attributes

pub among-none : (n number : ℕ) (before : Option (List ℕ)) (bytes : List ℕ)
    → entry_size 4 bytes ≡ None → last_among n number before bytes ≡ before
unfolding last_among
among-none zero number before bytes e = refl
among-none (suc n) number before bytes e = rw e refl

pub among-zero : (n number : ℕ) (before : Option (List ℕ)) (bytes : List ℕ)
    → n ≡ 0 → last_among n number before bytes ≡ before
unfolding last_among
among-zero n number before bytes e = rw e refl

pub among-next : (n later number size : ℕ) (before : Option (List ℕ)) (bytes : List ℕ)
    → later + 1 ≡ n → entry_size 4 bytes ≡ Some size
    → last_among n number before bytes
    ≡ last_among later number (payload_or number (take size bytes) before) (behind size bytes)
unfolding last_among
among-next n later number size before bytes one e = rw (one_more n later one) (rw e refl)

-- ---- the first that is wrong

module _ (deeper : Deeper) (context : ContextSeen) (v : Validation) (path : List Step) (list : ListSeen) where
  pub left_none : (n : ℕ) (bytes : List ℕ) → entry_size (front_of list) bytes ≡ None
      → left_wrong deeper context v path list n bytes ≡ rest_wrong v list path bytes
  unfolding left_wrong
  left_none zero bytes e = refl
  left_none (suc n) bytes e = rw e refl

  pub left_zero : (n : ℕ) (bytes : List ℕ) → n ≡ 0
      → left_wrong deeper context v path list n bytes ≡ rest_wrong v list path bytes
  unfolding left_wrong
  left_zero n bytes e = rw e refl

  pub left_some : (n later size : ℕ) (bytes : List ℕ) (w : Where) → later + 1 ≡ n
      → entry_size (front_of list) bytes ≡ Some size
      → entry_wrong deeper context v path list (take size bytes) (behind size bytes) ≡ Some w
      → left_wrong deeper context v path list n bytes ≡ Some w
  unfolding left_wrong
  left_some n later size bytes w one e is = rw (one_more n later one) (rw e (rw is refl))

  pub left_next : (n later size : ℕ) (bytes : List ℕ) → later + 1 ≡ n
      → entry_size (front_of list) bytes ≡ Some size
      → entry_wrong deeper context v path list (take size bytes) (behind size bytes) ≡ None
      → left_wrong deeper context v path list n bytes
      ≡ left_wrong deeper context v path list later (behind size bytes)
  unfolding left_wrong
  left_next n later size bytes one e is = rw (one_more n later one) (rw e (rw is refl))

-- ---- what a list in it comes to

pub mapped_some : (o : Option Violation) (w : Violation) → o ≡ Some w
    → option_map violation_view o ≡ Some (violation_view w)
mapped_some o w e = rw e refl

pub mapped_none : (o : Option Violation) → o ≡ None → option_map violation_view o ≡ None
mapped_none o e = rw e refl

-- a list, as what is left of it at first
pub list_left : (context : ContextSeen) (depth : ℕ) (v : Validation) (path : List Step) (list : ListSeen)
    → list_wrong context depth v path list
    ≡ left_wrong (deeper_at context depth) context v path list (length list.2) list.2
unfolding list_wrong
list_left context zero v path list = refl
list_left context (suc depth) v path list = refl

-- a list in another
pub deeper_is : (context : ContextSeen) (depth later : ℕ) → later + 1 ≡ depth
    → deeper_at context depth ≡ Some (list_wrong context later)
deeper_is context depth later one = rw (one_more depth later one) refl
