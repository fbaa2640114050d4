-- A payload of so many zeros.
use Rattle.std.specs.Prelude.{◌≡◌, ◌≢◌, ℕ, List, length, Ok, Err, replicate}
use Rattle.std.proofs.lemmas.List.{length-replicate}
use Rattle.neli.specs.wire.Sizes.{EndsInZeros}
use Rattle.neli.specs.wire.laws.Sizes.{unpadded-zeros}
use Rattle.neli.specs.wire.laws.Writing.{written-length, written-no_memory}
use Rattle.neli.specs.wire.Writing.{Wire}
use Rattle.neli.specs.errors.SerError.TheVariants as ser

-- its bytes
abbrev pub zeros : ℕ → Wire
zeros n = Ok (replicate n 0)

-- they are n
pub zeros-count : (n : ℕ) (bytes : List ℕ) → zeros n ≡ Ok bytes → length bytes ≡ n
zeros-count n bytes e = written-length (replicate n 0) bytes n (length-replicate {A = ℕ} n 0) e

-- zeros follow the first n
pub zeros-again : (n : ℕ) (bytes : List ℕ) → zeros n ≡ Ok bytes → EndsInZeros n bytes
zeros-again n bytes e = unpadded-zeros n bytes (zeros-count n bytes e)

-- they are not refused for memory
pub zeros-written : (n : ℕ) → zeros n ≢ Err ser.Memory
zeros-written n = written-no_memory (replicate n 0)
