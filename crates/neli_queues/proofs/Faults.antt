-- A fault of the link where no number is open.
use Rattle.std.proofs.Common.{◌≡◌, [], ◌∷◌, ℕ, List, Some, None, length, nat_eq, refl}
use Rattle.std.proofs.lemmas.Bool.{eq-eqb}
use Rattle.std.specs.HashMap.{hash_map_len}
use Rattle.std.specs.Map.{lookup}
use Rattle.neli_queues.specs.declared.queues.Queues.{Queues}
use Rattle.neli_queues.specs.Queues.{pending_of}

-- without an entry for any key, the list is empty
no_key : {X : Type 0} (entries : List (ℕ × X)) → ((q : ℕ) → lookup (nat_eq q) entries ≡ None) → length entries ≡ 0
no_key [] none = refl
no_key (entry ∷ entries) none = let here = rw (eq-eqb entry.0 entry.0 refl) at (none entry.0) in absurd cc

-- if no number is open, there are no entries
pub nobody_hears : (s : Queues) → ((q : ℕ) → pending_of s (Some q) ≡ None) → hash_map_len s.numbers ≡ 0
nobody_hears s none = no_key s.numbers.entries none
