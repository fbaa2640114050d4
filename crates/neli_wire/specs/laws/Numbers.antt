-- Laws of numbers on the wire.
use Rattle.std.proofs.Common.{◌≡◌, ℕ, zero, suc, ◌+◌, ◌*◌, ◌/◌, ◌%◌, ◌^◌, ◌<◌, ◌≤◌}
use Rattle.std.proofs.Common.{List, [], ◌∷◌, length, take, slice_index, refl, sym, ap, ◌∙◌, arith}
use Rattle.std.proofs.Math.Nat.{div-div-eq-div-mul, div-one, mod-eq_of_lt, mul-add-div, mul-add-mod_self_right}
use Rattle.std.proofs.Math.Nat.{mul_assoc, mul_comm, one-le-pow, pow-suc, pow-succ'}
use Rattle.std.proofs.lemmas.Nat.{div-mul-add, pow-add}
use mir.Val.{bits}
use Rattle.std.specs.Prelude.{ℤ, FitsSigned}
use Rattle.std.specs.Int.{Width, byte_at, bytes_high_first, bytes_low_first, cast_signed, cast_unsigned}
use Rattle.std.proofs.lemmas.Int.{of_z-to_z, to_z-of_z}
use Rattle.std.proofs.Math.Facts.{Fits-of_z, Fits-of_lt, sfits_to_z}
use Rattle.std.proofs.lemmas.List.{take_all, append-nil}
use Rattle.byteorder.specs.Endian.{big_from, big_number, big_bytes, little_from, little_number, little_bytes}
use Rattle.byteorder.specs.Numbers.{big_from-cons, big_from-lt, big_number-reads_back, little_from-cons}
use Rattle.byteorder.specs.Numbers.{little_from-lt, little_number-reads_back, length-bytes_low_first}
use Rattle.neli_wire.specs.Numbers.{AreBytes, FitsBytes, signed_bytes, signed_number}

byte_is : (k x : ℕ) → byte_at k x ≡ x / 256 ^ k % 256
byte_is zero x = ap (λ (y : ℕ). y % 256) (sym (div-one x))
byte_is (suc k) x = refl

byte_at-shift : (j a y : ℕ) → a < 256 → byte_at (suc j) (a + 256 * y) ≡ byte_at j y
byte_at-shift j a y lt =
    let low : (a + 256 * y) / 256 ≡ y = omega arith in
    let part : (a + 256 * y) / 256 ^ suc j ≡ y / 256 ^ j = ap (λ (p : ℕ). (a + 256 * y) / p) (pow-succ' 256 j)
    ∙ sym (div-div-eq-div-mul (a + 256 * y) 256 (256 ^ j)) ∙ ap (λ (x : ℕ). x / 256 ^ j) low in
    ap (λ (x : ℕ). x % 256) part ∙ sym (byte_is j y)

bytes-shift : (k j a y : ℕ) → a < 256 → bytes_low_first (suc j) k (a + 256 * y) ≡ bytes_low_first j k y
bytes-shift zero j a y lt = refl
bytes-shift (suc k) j a y lt = rw (byte_at-shift j a y lt, bytes-shift k (suc j) a y lt) refl

pub little_bytes-number : (n : ℕ) (s : List ℕ) → n ≤ length s → ((i : ℕ) → slice_index s i < 256)
    → little_bytes n (little_number n s) ≡ take n s
little_bytes-number zero s le small = refl
little_bytes-number (suc n) [] le small = absurd (omega arith)
little_bytes-number (suc n) (a ∷ s) le small =
    let lt : a < 256 = small 0 in
    let tail : little_from 1 n (a ∷ s) ≡ little_from 0 n s = little_from-cons 0 n a s in
    let head : byte_at 0 (a + 256 * little_from 0 n s) ≡ a = omega arith in
    let ih : bytes_low_first 0 n (little_from 0 n s) ≡ take n s =
    little_bytes-number n s (omega arith) (λ i. small (suc i)) in
    rw (tail, head, bytes-shift n 0 a (little_from 0 n s) lt, ih) refl

-- ---- the highest byte first

-- the highest byte of a number of n + 1 bytes
byte_high : (n a y : ℕ) → a < 256 → y < 256 ^ n → byte_at n (a * 256 ^ n + y) ≡ a
byte_high n a y small lt =
    byte_is n (a * 256 ^ n + y) ∙ ap (λ (x : ℕ). x % 256) (div-mul-add a (256 ^ n) y lt) ∙ mod-eq_of_lt small

-- a lower byte is the same whatever stands above it
byte_lower : (k j a y : ℕ) → byte_at k (a * 256 ^ (k + suc j) + y) ≡ byte_at k y
byte_lower k j a y =
    let positive : 0 < 256 ^ k = let h = one-le-pow k 256 (omega arith) in omega arith in
    let above : a * 256 ^ (k + suc j) ≡ 256 ^ k * (a * 256 ^ j * 256) =
    ap (λ (x : ℕ). a * x) (pow-add 256 k (suc j)) ∙ sym (mul_assoc a (256 ^ k) (256 ^ suc j))
    ∙ ap (λ (x : ℕ). x * 256 ^ suc j) (mul_comm a (256 ^ k)) ∙ mul_assoc (256 ^ k) a (256 ^ suc j)
    ∙ ap (λ (x : ℕ). 256 ^ k * (a * x)) (pow-suc 256 j)
    ∙ ap (λ (x : ℕ). 256 ^ k * x) (sym (mul_assoc a (256 ^ j) 256)) in
    let part : (a * 256 ^ (k + suc j) + y) / 256 ^ k ≡ a * 256 ^ j * 256 + y / 256 ^ k =
    ap (λ (x : ℕ). (x + y) / 256 ^ k) above ∙ mul-add-div positive (a * 256 ^ j * 256) y in
    byte_is k (a * 256 ^ (k + suc j) + y) ∙ ap (λ (x : ℕ). x % 256) part
    ∙ mul-add-mod_self_right (a * 256 ^ j) 256 (y / 256 ^ k) ∙ sym (byte_is k y)

bytes_lower : (k j a y : ℕ) → bytes_high_first k (a * 256 ^ (k + j) + y) ≡ bytes_high_first k y
bytes_lower zero j a y = refl
bytes_lower (suc k) j a y =
    let same : suc k + j ≡ k + suc j = omega arith in
    rw (same, byte_lower k j a y, bytes_lower k (suc j) a y) refl

pub big_bytes-number : (n : ℕ) (s : List ℕ) → n ≤ length s → AreBytes s → big_bytes n (big_number n s) ≡ take n s
big_bytes-number zero s le small = refl
big_bytes-number (suc n) [] le small = absurd (omega arith)
big_bytes-number (suc n) (a ∷ s) le small =
    let lt : a < 256 = small 0 in
    let low : big_number n s < 256 ^ n = big_from-lt 0 n s (λ i. small (suc i)) in
    let tail : big_from 1 n (a ∷ s) ≡ big_from 0 n s = big_from-cons 0 n a s in
    let head : byte_at n (a * 256 ^ n + big_from 0 n s) ≡ a = byte_high n a (big_from 0 n s) lt low in
    let zero_more : n + 0 ≡ n = omega arith in
    let others : bytes_high_first n (a * 256 ^ n + big_from 0 n s) ≡ bytes_high_first n (big_from 0 n s) =
    rw zero_more at (bytes_lower n 0 a (big_from 0 n s)) in
    let ih : bytes_high_first n (big_from 0 n s) ≡ take n s = big_bytes-number n s (omega arith) (λ i. small (suc i)) in
    rw (tail, head, others, ih) refl

pub reads_back-big : (n x : ℕ) → FitsBytes n x → big_number n (big_bytes n x) ≡ x
reads_back-big n x fits = ap (big_number n) (sym (append-nil (big_bytes n x))) ∙ big_number-reads_back n x [] fits

pub writes_back-big : (n : ℕ) (bytes : List ℕ) → length bytes ≡ n → AreBytes bytes
    → big_bytes n (big_number n bytes) ≡ bytes
writes_back-big n bytes len small = big_bytes-number n bytes (omega arith) small ∙ take_all n bytes (omega arith)

pub in_range-big : (n : ℕ) (bytes : List ℕ) → length bytes ≡ n → AreBytes bytes → FitsBytes n (big_number n bytes)
in_range-big n bytes len small = big_from-lt 0 n bytes small

-- ---- unsigned numbers of n bytes

pub count-unsigned : (n x : ℕ) → length (little_bytes n x) ≡ n
count-unsigned n x = length-bytes_low_first 0 n x

pub reads_back-unsigned : (n x : ℕ) → FitsBytes n x → little_number n (little_bytes n x) ≡ x
reads_back-unsigned n x fits = ap (little_number n) (sym (append-nil (little_bytes n x)))
    ∙ little_number-reads_back n x [] fits

pub writes_back-unsigned : (n : ℕ) (bytes : List ℕ) → length bytes ≡ n → AreBytes bytes
    → little_bytes n (little_number n bytes) ≡ bytes
writes_back-unsigned n bytes len small = little_bytes-number n bytes (omega arith) small
    ∙ take_all n bytes (omega arith)

pub in_range-unsigned : (n : ℕ) (bytes : List ℕ) → length bytes ≡ n → AreBytes bytes
    → FitsBytes n (little_number n bytes)
in_range-unsigned n bytes len small = little_from-lt 0 n bytes small

-- ---- signed numbers of a width, which is n bytes

pub count-signed : (w : Width) (n : ℕ) → 256 ^ n ≡ 2 ^ bits w → (x : ℤ) → length (signed_bytes w n x) ≡ n
count-signed w n wide x = length-bytes_low_first 0 n (cast_unsigned w x)

pub reads_back-signed : (w : Width) (n : ℕ) → 256 ^ n ≡ 2 ^ bits w → (x : ℤ) → FitsSigned w x
    → signed_number w n (signed_bytes w n x) ≡ x
reads_back-signed w n wide x fits =
    let low = Fits-of_z fits in
    let small : FitsBytes n (cast_unsigned w x) = rw wide low.fits in
    ap (cast_signed w) (reads_back-unsigned n (cast_unsigned w x) small) ∙ to_z-of_z w x fits

pub writes_back-signed : (w : Width) (n : ℕ) → 256 ^ n ≡ 2 ^ bits w → (bytes : List ℕ) → length bytes ≡ n
    → AreBytes bytes → signed_bytes w n (signed_number w n bytes) ≡ bytes
writes_back-signed w n wide bytes len small =
    let fits : little_number n bytes < 2 ^ bits w = rw wide at (in_range-unsigned n bytes len small) in
    ap (little_bytes n) (of_z-to_z w (little_number n bytes) fits) ∙ writes_back-unsigned n bytes len small

pub in_range-signed : (w : Width) (n : ℕ) → 256 ^ n ≡ 2 ^ bits w → (bytes : List ℕ) → length bytes ≡ n → AreBytes bytes
    → FitsSigned w (signed_number w n bytes)
in_range-signed w n wide bytes len small =
    let fits : little_number n bytes < 2 ^ bits w = rw wide at (in_range-unsigned n bytes len small) in
    sfits_to_z (Fits-of_lt fits)
