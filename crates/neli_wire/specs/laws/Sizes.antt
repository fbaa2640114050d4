-- Laws of sizes, which the impls cite.
use Rattle.std.proofs.Common.{◌≡◌, ℕ, ◌-◌, List, ◌++◌, length, inl, inr, refl, sym, arith, length-append}
use Rattle.std.specs.Prelude.{Ok, Err}
use Rattle.std.proofs.lemmas.List.{append-nil, length-replicate, take_all, take_at}
use Rattle.neli_wire.specs.Sizes.{align, EndsInZeros, IsRounded}
use Rattle.neli_wire.specs.Writing.{Wire, pad_wire, zeros_for}

-- a value without padding at its end
pub unpadded-rounded : {A : Type 0} (size : A → ℕ) (x : A) → IsRounded (size x) (size x)
unpadded-rounded size x = inl refl

-- a value with padding at its end
pub padded-rounded : {A : Type 0} (size : A → ℕ) (x : A) → IsRounded (size x) (align (size x))
padded-rounded size x = inr refl

-- bytes without padding end in no zeros
pub unpadded-zeros : (n : ℕ) (bytes : List ℕ) → length bytes ≡ n → EndsInZeros n bytes
unpadded-zeros n bytes len =
    let none : length bytes - n ≡ 0 = omega (arith, len) in
    rw (none, take_all n bytes (omega (arith, len))) (sym (append-nil bytes))

-- padded bytes end in their padding
pub padded-zeros : (w : Wire) (n : ℕ) → ((x : List ℕ) → w ≡ Ok x → length x ≡ n) → (bytes : List ℕ)
    → pad_wire w ≡ Ok bytes → EndsInZeros n bytes
padded-zeros (Ok x) n sized bytes e =
    let len : length x ≡ n = sized x refl in
    let same : x ++ zeros_for (length x) ≡ bytes = cc in
    let zeros : length (x ++ zeros_for (length x)) - n ≡ align (length x) - length x =
    omega (
      arith,
      len,
      length-append x (zeros_for (length x)),
      length-replicate {A = ℕ} (align (length x) - length x) 0,
    ) in
    rw (← same, take_at x (zeros_for (length x)) n len, zeros) refl
padded-zeros (Err d) n sized bytes e = absurd cc
