-- Powers of at most 64 bits, and those that have more.
use Rattle.std.proofs.Common.{◌≡◌, ◌≤◌, ◌<◌, ◌^◌, ◌*◌, ℕ, suc, Some, None, arith, refl}
use Rattle.std.proofs.Math.Nat.{pow-le-pow_right, pow-suc}
use Rattle.std.proofs.lemmas.Bool.{le-ltb, lt-ltb}
use Rattle.neli_inputs.specs.Times.{fitting}

pub fits : (n : ℕ) → n < 2 ^ 64 → fitting n ≡ Some n
fits n less = rw (lt-ltb n (2 ^ 64) less) refl

pub too_large : (n : ℕ) → 2 ^ 64 ≤ n → fitting n ≡ None
too_large n large = rw (le-ltb n (2 ^ 64) large) refl

-- a power whose first factors have more bits
pub too_soon : (b i e : ℕ) → 1 ≤ b → i < e → 2 ^ 64 ≤ b ^ i * b → fitting (b ^ e) ≡ None
too_soon b i e positive less large =
    let first : 2 ^ 64 ≤ b ^ suc i = rw (pow-suc b i) large in
    let more : b ^ suc i ≤ b ^ e = pow-le-pow_right positive less in
    let all : 2 ^ 64 ≤ b ^ e = omega (arith, first, more) in
    too_large (b ^ e) all
