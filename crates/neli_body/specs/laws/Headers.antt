-- Laws of headers, field by field: a field is read back whatever follows it, and a field that was read is
-- written as the bytes of its place.
use Rattle.std.proofs.Common.{◌≡◌, ℕ, ◌+◌, List, ◌++◌, length, take, drop, sym, ap, ◌∙◌, arith, length-drop}
use Rattle.std.proofs.lemmas.List.{drop-drop, get_or-drop, take-append-drop, take_all}
use Rattle.std.proofs.Math.Facts.{Fits-of_z}
use Rattle.std.proofs.lemmas.Int.{of_z-to_z, to_z-of_z}
use Rattle.std.specs.Prelude.{ℤ, FitsSigned}
use Rattle.std.specs.Int.{cast_signed, cast_unsigned, w32}
use Rattle.byteorder.specs.Numbers.{little_from-lt, little_number-reads_back}
use Rattle.neli_wire.specs.Frames.{number_in}
use Rattle.neli_wire.specs.laws.Numbers.{little_bytes-number}
use Rattle.neli_wire.specs.Numbers.{AreBytes, FitsBytes, little_bytes, little_number, signed_bytes, signed_number}
use Rattle.neli_body.specs.Headers.{IsNamed}

-- ---- what is written is read back

-- a number
pub number-back : (n x : ℕ) (rest : List ℕ) → FitsBytes n x → little_number n (little_bytes n x ++ rest) ≡ x
number-back n x rest fits = little_number-reads_back n x rest fits

-- a signed number
pub signed-back : (x : ℤ) (rest : List ℕ) → FitsSigned w32 x → signed_number w32 4 (signed_bytes w32 4 x ++ rest) ≡ x
signed-back x rest fits =
    let low = Fits-of_z fits in
    ap (cast_signed w32) (number-back 4 (cast_unsigned w32 x) rest low.fits) ∙ to_z-of_z w32 x fits

-- a value by its number
pub value-back : {A : Type 0} (n : ℕ) (number_of : A → ℕ) (value_of : ℕ → A) (v : A) (rest : List ℕ)
    → IsNamed n number_of value_of v → value_of (little_number n (little_bytes n (number_of v) ++ rest)) ≡ v
value-back n number_of value_of v rest is = ap value_of (number-back n (number_of v) rest is.fits) ∙ is.named

-- ---- what is read is written as the same bytes

bytes-drop : (i : ℕ) (s : List ℕ) → AreBytes s → AreBytes (drop i s)
bytes-drop i s small = λ k. rw (get_or-drop i s k 0) (small (i + k))

-- the bytes of the number at a place
place-bytes : (n i m : ℕ) (s : List ℕ) → length s ≡ i + n + m → AreBytes s
    → little_bytes n (number_in n i s) ≡ take n (drop i s)
place-bytes n i m s size small = little_bytes-number n (drop i s) (omega (arith, length-drop i s))
    (bytes-drop i s small)

-- the number at place i, and then what follows its n bytes; m more bytes follow it
pub place : (n i m : ℕ) (s rest : List ℕ) (x : ℕ) → length s ≡ i + n + m → AreBytes s → x ≡ number_in n i s
    → rest ≡ drop (i + n) s → little_bytes n x ++ rest ≡ drop i s
place n i m s rest x size small number after =
    ap (λ (y : ℕ). little_bytes n y ++ rest) number
    ∙ ap (λ (front : List ℕ). front ++ rest) (place-bytes n i m s size small)
    ∙ ap (λ (back : List ℕ). take n (drop i s) ++ back) (after ∙ sym (drop-drop n i s))
    ∙ take-append-drop n (drop i s)

-- the last number
pub last_place : (n i : ℕ) (s : List ℕ) (x : ℕ) → length s ≡ i + n → AreBytes s → x ≡ number_in n i s
    → little_bytes n x ≡ drop i s
last_place n i s x size small number =
    ap (little_bytes n) number ∙ place-bytes n i 0 s (omega arith) small
    ∙ take_all n (drop i s) (omega (arith, length-drop i s))

-- the number of the signed number at a place
pub signed-place : (i : ℕ) (s : List ℕ) → AreBytes s → cast_unsigned w32 (signed_number w32 4 (drop i s))
    ≡ number_in 4 i s
signed-place i s small = of_z-to_z w32 (number_in 4 i s) (little_from-lt 0 4 (drop i s) (bytes-drop i s small))
