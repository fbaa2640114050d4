use Rattle.std.proofs.Common.{◌≡◌, ◌*◌, ◌<◌, ℕ, length, slice_index}
use Rattle.neli_tables_write.specs.Addresses.{IsByteAt}
use Rattle.neli_tables_write.proofs.address.hardware_bytes.Given as goal

-- the bytes so far are those of the digits so far
abbrev pub invariant-loop-place : goal.invariant-loop-place
invariant-loop-place l =
    (length l.bytes.items ≡ l.place)
    × ((k : ℕ) → k < l.place → IsByteAt l.text (k * 3) (slice_index l.bytes.items k))
