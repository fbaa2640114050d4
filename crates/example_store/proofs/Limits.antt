-- The bytes that a datagram adds to the kept ones.
use Rattle.std.proofs.Common.{◌≡◌, ℕ, zero, suc, ◌+◌, ◌-◌, ◌≤◌, ◌<◌, List, length, arith}
use Rattle.std.specs.Prelude.{Result, Ok, Err, OnErr, OnOk}
use Rattle.neli.specs.log.declared.store.Store.{Store}
use Rattle.neli.specs.log.Contents.{spans_of}
use Rattle.neli.specs.log.Log.{IsAsBefore, KeepsEntries, byte_count, kept_with}
use Rattle.example_store.specs.Limited.{StaysWithin}

kept_at_most : (n : ℕ) (bytes : List ℕ) → kept_with n bytes ≤ length bytes
kept_at_most zero bytes = omega arith
kept_at_most (suc n) bytes = omega arith

within : (limit before after more count : ℕ) → after ≡ before + more → more ≤ count → count ≤ limit - before
    → limit < after → after ≤ before
within limit before after more count is most room above = omega (arith, is, most, room, above)

same : (after before : ℕ) → after ≡ before → after ≤ before
same after before is = omega (arith, is)

-- a log stays within its limit when it takes in a datagram for which there is room, or refuses it
pub stays_within : {T E : Type 0} (limit : ℕ) (before after : Store) (bytes : List ℕ) (r : Result T E)
    → length bytes ≤ limit - byte_count before → OnOk r (KeepsEntries before after bytes)
    → OnErr r (IsAsBefore before after) → StaysWithin limit (byte_count before) (byte_count after)
stays_within limit before after bytes (Err e) room kept left above = same (byte_count after) (byte_count before) left.1
stays_within limit before after bytes (Ok x) room kept left above =
    within limit (byte_count before) (byte_count after) (kept_with (length (spans_of kept.0)) bytes)
    (length bytes) kept.1.counted (kept_at_most (length (spans_of kept.0)) bytes) room above
