-- Bytes kept in an array of 32 whose rest is zeros.
use Rattle.std.proofs.Common.{◌≡◌, ℕ, ◌≤◌, ◌-◌, List, ◌++◌, length, replicate, take, drop, refl, sym, ap, arith}
use Rattle.std.proofs.Common.{length-append}
use Rattle.std.proofs.lemmas.List.{take_at, drop-replicate, length-replicate}

abbrev zeros : ℕ → List ℕ
zeros n = replicate n 0

-- at most 32 bytes and the rest of 32 zeros
pub held_in_zeros : (xs : List ℕ) → length xs ≤ 32 → (length xs ≤ 32)
    × (length (xs ++ drop (length xs) (zeros 32)) ≡ 32)
    × (xs ++ drop (length xs) (zeros 32) ≡ take (length xs) (xs ++ drop (length xs) (zeros 32)) ++ zeros
    (32 - length xs))
held_in_zeros xs le =
    let rest = zeros (32 - length xs) in
    let left : drop (length xs) (zeros 32) ≡ rest = drop-replicate (length xs) 32 0 in
    let size : length rest ≡ 32 - length xs = length-replicate (32 - length xs) 0 in
    rw left (
      le,
      omega (arith, length-append xs rest, size, le),
      ap (λ (front : List ℕ). front ++ rest) (sym (take_at xs rest (length xs) refl)),
    )
