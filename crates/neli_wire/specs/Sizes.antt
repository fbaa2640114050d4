-- Sizes: lengths rounded up to four, as netlink aligns everything it carries.
use Rattle.std.specs.Prelude.{◌≡◌, ℕ, ◌+◌, ◌*◌, ◌/◌, ◌-◌, ◌⊎◌, List, ◌++◌, length, replicate, take}

-- n rounded up to a multiple of four
abbrev pub align : ℕ → ℕ
align n = (n + 3) / 4 * 4

-- how many bytes a length lacks to a multiple of four
abbrev pub gap : ℕ → ℕ
gap n = align n - n

-- the whole has no padding at its end, or as much as rounds it up to a multiple of four
abbrev pub IsRounded : ℕ → ℕ → Type 0
IsRounded unpadded written = (written ≡ unpadded) ⊎ (written ≡ align unpadded)

-- after their first n bytes there are only zeros
abbrev pub EndsInZeros : ℕ → List ℕ → Type 0
EndsInZeros n bytes = bytes ≡ take n bytes ++ replicate (length bytes - n) 0
