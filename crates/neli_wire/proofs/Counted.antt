-- Counting frames by their lengths alone.
use Rattle.std.proofs.Common.{◌≡◌, ℕ, zero, suc, ◌+◌, ◌*◌, ◌≤◌, ◌<◌, List, [], ◌∷◌, length, drop, refl, ap, subst, arith}
use Rattle.std.proofs.Common.{length-drop}
use Rattle.byteorder.specs.Endian.{little_number}
use Rattle.neli_wire.specs.Sizes.{align}
use Rattle.neli_wire.specs.Counts.{AreCounted}

-- so many frames stand before the rest
pub record Counts (bytes rest : List ℕ) (count : ℕ) : Type 0 where
  pub more : (m : ℕ) → AreCounted m rest → AreCounted (m + count) bytes
  pub only : (n : ℕ) → AreCounted n bytes → (m : ℕ) × AreCounted m rest × (n ≡ m + count)
  pub few : 4 * count + length rest ≤ length bytes

-- a frame of the rest is one more
frame_of : (rest : List ℕ) (m : ℕ) → AreCounted m rest → 0 < length rest
    → (k : ℕ) × (m ≡ suc k) × (4 ≤ little_number 2 rest) × (align (little_number 2 rest) ≤ length rest)
    × AreCounted k (drop (align (little_number 2 rest)) rest)
frame_of rest zero are some = absurd (omega (arith, ap length are))
frame_of rest (suc k) are some = (k, refl, are.0, are.1, are.2)

empty : (s : List ℕ) → length s ≡ 0 → s ≡ []
empty [] e = refl
empty (b ∷ s) e = absurd (omega (arith, e))

-- no bytes are no frame
nothing_more : (rest : List ℕ) (m : ℕ) → rest ≡ [] → AreCounted m rest → m ≡ 0
nothing_more rest zero none are = refl
nothing_more rest (suc k) none are = absurd (omega (arith, ap length none, are.0, are.1))

module _ (bytes rest : List ℕ) (count : ℕ) (so_far : Counts bytes rest count) where
  pub Counts-next : 4 ≤ little_number 2 rest → align (little_number 2 rest) ≤ length rest
      → Counts bytes (drop (align (little_number 2 rest)) rest) (count + 1)
  Counts-next least fits =
      let end = align (little_number 2 rest) in
      let left : length (drop end rest) + end ≡ length rest = omega (arith, length-drop end rest) in
      record {
        more = λ m are. subst (λ (k : ℕ). AreCounted k bytes) (omega arith) (so_far.more (suc m) (least, fits, are));
        only = λ n are. let found = so_far.only n are in
            let one = frame_of rest found.0 found.1 (omega arith) in
            (one.0, one.4, omega (arith, found.2, one.1));
        few = omega (arith, so_far.few, left);
      }

  pub Counts-end : length rest ≡ 0 → AreCounted count bytes
  Counts-end none = subst (λ (k : ℕ). AreCounted k bytes) (omega arith) (so_far.more 0 (empty rest none))

  pub Counts-all : length rest ≡ 0 → (n : ℕ) → AreCounted n bytes → count ≡ n
  Counts-all none n are = let found = so_far.only n are in
      omega (arith, found.2, nothing_more rest found.0 (empty rest none) found.1)

  pub Counts-stuck : 0 < length rest → (4 ≤ little_number 2 rest → length rest < align (little_number 2 rest))
      → (n : ℕ) → AreCounted n bytes → 0 ≡ n
  Counts-stuck some why n are =
      let found = so_far.only n are in
      let one = frame_of rest found.0 found.1 some in
      let short = why one.2 in
      absurd (omega (arith, one.3, short))

  pub Counts-short : 0 < length rest → length rest < 4 → (n : ℕ) → AreCounted n bytes → 0 ≡ n
  Counts-short some short n are =
      let found = so_far.only n are in
      let one = frame_of rest found.0 found.1 some in
      absurd (omega (arith, one.2, one.3, short))
