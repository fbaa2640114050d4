-- Bytes kept in an array of 32 whose rest is zeros.
use Rattle.std.proofs.Common.{◌≡◌, ℕ, ◌≤◌, ◌-◌, List, ◌++◌, length, replicate, take, sym, ap, arith}
use Rattle.std.proofs.lemmas.List.{length-take-le}

-- the array and the count are those of the bytes alone
pub fields-back : {A : Type 0} (make : List ℕ → ℕ → A) (count : ℕ) (bytes : List ℕ) → count ≤ 32 → length bytes ≡ 32
    → bytes ≡ take count bytes ++ replicate (32 - count) 0
    → make (take count bytes ++ replicate (32 - length (take count bytes)) 0) (length (take count bytes))
    ≡ make bytes count
fields-back make count bytes most size rest =
    rw (length-take-le count bytes (omega (arith, most, size))) (ap (λ (held : List ℕ). make held count) (sym rest))
