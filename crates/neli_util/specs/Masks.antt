-- Masks of 32 bits: the groups from 1 to 32, of which group n has the bit of value 2 ^ (n - 1).
use Rattle.std.specs.Prelude.{◌≡◌, ℕ, ◌-◌, Bool, ◌&&◌, List, ◌++◌, ◌==◌, nat_lt, codes}
use Rattle.std.specs.Fmt.{decimal}
use Rattle.std.specs.Int.{bit_at}
use Rattle.std.specs.List.{filter, range_with_len}
use Rattle.neli_util.specs.Groups.{has}

-- how many groups have a bit: a word of its own, so that no proof computes all of them
unfoldable pub mask_width : ℕ
mask_width = 32

-- whether the mask has the bit of group n
abbrev pub is_masked : ℕ → ℕ → Bool
is_masked mask n = nat_lt 0 n && (bit_at mask (n - 1) == 1)

-- the groups of a mask, lowest first
abbrev pub groups_of : ℕ → List ℕ
groups_of mask = filter (is_masked mask) (range_with_len 1 mask_width)

-- the mask has the bits of these groups, and no others
abbrev pub IsMaskOf : List ℕ → ℕ → Type 0
IsMaskOf groups mask = (n : ℕ) → is_masked mask n ≡ has groups n

-- the groups that have no bit in a mask
abbrev pub past_mask : List ℕ → List ℕ
past_mask groups = filter (λ n. nat_lt 32 n) groups

-- the text that reports a group without a bit
abbrev pub past_mask_text : ℕ → List ℕ
past_mask_text n = codes "Group " ++ decimal n ++ codes " cannot be represented with a bit width of 32"
