-- A walk that is not within the bytes returns nothing.
use Rattle.std.proofs.Common.{◌≡◌, ◌∙◌, ℕ, ℤ, List, None, ap, sym}
use Rattle.neli_c_parts.specs.declared.message.NeliWalk.{NeliWalk}
use Rattle.neli_c_parts.specs.Codes.{item, place}
use Rattle.neli_c_parts.specs.Walks.{attribute_layout, bytes_left, walk_code}

-- a step at its start is refused for its place
pub out-of-place : (bytes : List ℕ) (w v : NeliWalk) (code : ℤ) → bytes_left bytes w ≡ None → v ≡ w
    → code ≡ walk_code attribute_layout (bytes_left bytes v) → code ≡ place
out-of-place bytes w v code out same is =
    is ∙ ap (λ (x : NeliWalk). walk_code attribute_layout (bytes_left bytes x)) same
    ∙ ap (walk_code attribute_layout) out

-- and so returns no attribute
pub no-item : (bytes : List ℕ) (w v : NeliWalk) (code : ℤ) → bytes_left bytes w ≡ None → v ≡ w
    → code ≡ walk_code attribute_layout (bytes_left bytes v) → code ≡ item → ⊥
no-item bytes w v code out same is found =
    let bad : place ≡ item = sym (out-of-place bytes w v code out same is) ∙ found in cc
