-- Texts that are strings of JSON.
use Rattle.std.proofs.Common.{◌≡◌, ℕ, zero, suc, ◌+◌, ◌/◌, ◌%◌, ◌<◌, ◌≤◌, true, false, ◌&&◌, not}
use Rattle.std.proofs.Common.{List, [], ◌∷◌}
use Rattle.std.proofs.Common.{◌++◌, refl, ◌∙◌, arith, inl, inr}
use Rattle.std.specs.Prelude.{◌==◌, ◌||◌, nat_le, nat_lt}
use Rattle.std.specs.Char.{encode_utf8}
use Rattle.std.specs.Fmt.{digit_glyph, digits, digits_onto}
use Rattle.std.specs.List.{flat_map, list_all}
use Rattle.std.specs.Str.{chars}
use Rattle.std.proofs.lemmas.Bool.{agree_below_at, and_from, cond_both, eqb-true, le-leb, ltb-true}
use Rattle.std.proofs.lemmas.Bool.{ltb-false, ne_eqb}
use Rattle.std.proofs.lemmas.Bool.{not_from_false, or_cases, or_from, or_parts, and_parts}
use Rattle.std.proofs.lemmas.Fmt.{hex_one_digit}
use Rattle.std.proofs.lemmas.List.Folds.{list_all-append}
use Rattle.neli_tables_walk.specs.declared.quoted.Escape.{Escape}
use Rattle.neli_tables_walk.specs.declared.quoted.Escape.TheVariants.{Letter, Number}
use Rattle.neli_tables_walk.specs.Json.{is_plain, is_letter, is_hex, IsChars, plain, letter, numeral}
use Rattle.neli_tables_walk.specs.Json.{both, IsJson, string}
use Rattle.neli_tables_walk.specs.Quoted.{escape_text, escaped, escaped_char, quoted}

-- ---- bytes

-- bytes past ASCII stand for themselves
high-is_plain : (b : ℕ) → 128 ≤ b → is_plain b ≡ true
high-is_plain b high =
    and_from (nat_le 32 b) (not (b == 34 || b == 92)) (le-leb 32 b (omega arith))
    (not_from_false _ (or_from (b == 34) (b == 92) (ne_eqb b 34 (λ e. omega arith)) (ne_eqb b 92
    (λ e. omega arith))))

low-is_plain : (b : ℕ) → 32 ≤ b → (b == 34 || b == 92) ≡ false → is_plain b ≡ true
low-is_plain b low other =
    and_from (nat_le 32 b) (not (b == 34 || b == 92)) (le-leb 32 b low) (not_from_false _ other)

one : (a : ℕ) (bs : List ℕ) → is_plain a ≡ true → list_all is_plain bs ≡ true
    → list_all is_plain (a ∷ bs) ≡ true
one a bs p q = and_from (is_plain a) (list_all is_plain bs) p q

-- the bytes of a character that needs no escape
encode-plain : (c : ℕ) → 32 ≤ c → (c == 34 || c == 92) ≡ false
    → list_all is_plain (encode_utf8 c) ≡ true
unfolding encode_utf8
encode-plain c low other =
    let high : (b : ℕ) (bs : List ℕ) → 128 ≤ b → list_all is_plain bs ≡ true
    → list_all is_plain (b ∷ bs) ≡ true
    = λ b bs h q. one b bs (high-is_plain b h) q in
    let n1 = 128 + c % 64 in
    let n2 = 128 + c / 64 % 64 in
    let n3 = 128 + c / 4096 % 64 in
    let last : list_all is_plain (n1 ∷ []) ≡ true = high n1 [] (omega arith) refl in
    let two : list_all is_plain (n2 ∷ n1 ∷ []) ≡ true = high n2 (n1 ∷ []) (omega arith) last in
    let three : list_all is_plain (n3 ∷ n2 ∷ n1 ∷ []) ≡ true = high n3 (n2 ∷ n1 ∷ [])
    (omega arith) two in
    cond_both (nat_lt c 128) (c ∷ []) _ (λ l. list_all is_plain l ≡ true)
    (λ e. one c [] (low-is_plain c low other) refl) (λ e.
    cond_both (nat_lt c 2048) _ _ (λ l. list_all is_plain l ≡ true)
    (λ e. high (192 + c / 64) (n1 ∷ []) (omega arith) last) (λ e.
    cond_both (nat_lt c 65536) _ _ (λ l. list_all is_plain l ≡ true)
    (λ e. high (224 + c / 4096) (n2 ∷ n1 ∷ []) (omega arith) two)
    (λ e. high (240 + c / 262144) (n3 ∷ n2 ∷ n1 ∷ []) (omega arith) three)))

-- a digit's glyph
glyph-is_hex : (d : ℕ) → d < 16 → is_hex (digit_glyph false d) ≡ true
glyph-is_hex d small =
    agree_below_at (λ n. is_hex (digit_glyph false n)) (λ n. true) 16 d refl small

pub glyph-plain : (d : ℕ) → is_plain (digit_glyph false d) ≡ true
glyph-plain d =
    cond_both (nat_lt d 10) (48 + d) (87 + d) (λ b. is_plain b ≡ true)
    (λ e. low-is_plain (48 + d) (omega arith) (no_sign (48 + d) (omega arith) (omega
    (arith, ltb-true d 10 e))))
    (λ e. low-is_plain (87 + d) (omega arith) (no_letter (87 + d) (omega
    (arith, ltb-false d 10 e))))
  where
    no_sign : (b : ℕ) → 34 < b → b < 92 → (b == 34 || b == 92) ≡ false
    no_sign b above below =
        or_from (b == 34) (b == 92) (ne_eqb b 34 (λ e. omega arith))
        (ne_eqb b 92 (λ e. omega arith))

    no_letter : (b : ℕ) → 92 < b → (b == 34 || b == 92) ≡ false
    no_letter b above =
        or_from (b == 34) (b == 92) (ne_eqb b 34 (λ e. omega arith))
        (ne_eqb b 92 (λ e. omega arith))

pub plain-append : (t u : List ℕ) → list_all is_plain t ≡ true → list_all is_plain u ≡ true
    → list_all is_plain (t ++ u) ≡ true
plain-append t u p q = list_all-append is_plain t u ∙ and_from _ _ p q

-- ---- characters

-- two digits after `\u00`
numbered : (c : ℕ) → c < 256 → IsChars (escape_text c Number)
numbered c small =
    let high = hex_one_digit false (c / 16) (omega arith) in
    let low = hex_one_digit false (c % 16) (omega arith) in
    rw (high, low)
    (numeral (48 ∷ 48 ∷ digit_glyph false (c / 16) ∷ digit_glyph false (c % 16) ∷ []) refl
    (and_from (is_hex (digit_glyph false (c / 16))) _ (glyph-is_hex (c / 16) (omega arith))
    (and_from (is_hex (digit_glyph false (c % 16))) true (glyph-is_hex (c % 16)
    (omega arith)) refl)))

-- itself after a reverse solidus
lettered : (c : ℕ) → (c == 34 || c == 92) ≡ true → IsChars (escape_text c (Letter c))
unfolding encode_utf8
lettered c is =
    elim (or_cases (c == 34) (c == 92) is) [
      | inl e ↦ rw (eqb-true c 34 e) (letter 34 refl)
      | inr e ↦ rw (eqb-true c 92 e) (letter 92 refl)
    ]

by_letter : (c l : ℕ) → is_letter l ≡ true → nat_lt l 128 ≡ true
    → IsChars (escape_text c (Letter l))
unfolding encode_utf8
by_letter c l is small = rw small (letter l is)

escaped_char-chars : (c : ℕ) → IsChars (escaped_char c)
escaped_char-chars c =
    let P : Escape → Type 0 = λ e. IsChars (escape_text c e) in
    cond_both (c == 34 || c == 92) _ _ P (lettered c) (λ other.
    cond_both (c == 10) _ _ P (λ e. by_letter c 110 refl refl) (λ e.
    cond_both (c == 13) _ _ P (λ e. by_letter c 114 refl refl) (λ e.
    cond_both (c == 9) _ _ P (λ e. by_letter c 116 refl refl) (λ e.
    cond_both (nat_lt c 32 || (nat_lt 126 c && nat_lt c 160)) _ _ P
    (λ control. numbered c (control-small c control))
    (λ free. plain (encode_utf8 c) (encode-plain c (ltb-false c 32
    (or_parts _ _ free).0) other))))))
  where
    control-small : (c : ℕ) → (nat_lt c 32 || (nat_lt 126 c && nat_lt c 160)) ≡ true → c < 256
    control-small c is =
        elim (or_cases (nat_lt c 32) _ is) [
          | inl e ↦ omega (arith, ltb-true c 32 e)
          | inr e ↦ omega (arith, ltb-true c 160 (and_parts (nat_lt 126 c) (nat_lt c 160) e).1)
        ]

escapes-chars : (cs : List ℕ) → IsChars (flat_map escaped_char cs)
escapes-chars [] = plain [] refl
escapes-chars (c ∷ cs) =
    both (escaped_char c) (flat_map escaped_char cs) (escaped_char-chars c) (escapes-chars cs)

pub escaped-chars : (text : List ℕ) → IsChars (escaped text)
escaped-chars text = escapes-chars (chars text)

-- a text in quotes is a string
pub quoted-string : (text : List ℕ) → IsJson (quoted text)
quoted-string text = string (escaped text) (escaped-chars text)

-- ---- digits

-- digits in any base
onto-plain : (k base n : ℕ) (acc : List ℕ) → list_all is_plain acc ≡ true
    → list_all is_plain (digits_onto k base false n acc) ≡ true
onto-plain zero base n acc is = is
onto-plain (suc k) base n acc is =
    let more : list_all is_plain (digit_glyph false (n % base) ∷ acc) ≡ true
    = one (digit_glyph false (n % base)) acc (glyph-plain (n % base)) is in
    cond_both (n / base == 0) _ _ (λ l. list_all is_plain l ≡ true) (λ e. more)
    (λ e. onto-plain k base (n / base) _ more)

pub digits-plain : (base n : ℕ) → list_all is_plain (digits base false n) ≡ true
unfolding digits
digits-plain base n = onto-plain 64 base n [] refl
