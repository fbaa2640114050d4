-- Frames that are counted by their lengths alone.
use Rattle.std.specs.Prelude.{◌≡◌, ◌≤◌, ℕ, zero, suc, List, [], length, drop}
use Rattle.byteorder.specs.Endian.{little_number}
use Rattle.neli_wire.specs.Sizes.{align}

-- the bytes are n frames, one after the other: each begins with its length, four or more, in two bytes, and is padded
abbrev pub AreCounted : ℕ → List ℕ → Type 0
AreCounted zero s = s ≡ []
AreCounted (suc n) s =
    let len = little_number 2 s in (4 ≤ len) × (align len ≤ length s) × AreCounted n (drop (align len) s)
