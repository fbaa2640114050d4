-- The hexadecimal text of bytes.
use Rattle.std.proofs.Common.{◌≡◌, ◌∙◌, ℕ, ◌+◌, ◌-◌, ◌/◌, ◌%◌, ◌^◌, ◌<◌, zero, suc, Bool, true, false, ◌&&◌, eqb, inl}
use Rattle.std.proofs.Common.{inr, List, [], ◌∷◌, ◌++◌, length, take, get_or, Option, refl, sym, ap, subst, arith}
use Rattle.std.specs.Fmt.{digits, digit_glyph, format_spec, padded_integral}
use Rattle.std.specs.Io.KnownBytes.{Appends}
use Rattle.std.proofs.lemmas.Fmt.{hex_byte}
use Rattle.std.proofs.lemmas.List.{take_more}
use Rattle.std.proofs.lemmas.Bool.{and_parts, cases_lt, eqb-true}
use Rattle.hex.specs.Hex.{encode_lower, encode_with, lower_digits}
use Rattle.neli_program.proofs.Streams.{appends_more, appends_none}

-- what `{:02x}` writes of a byte
abbrev two_digits : ℕ → List ℕ
two_digits b = padded_integral (format_spec 32 0 4 2 (2 ^ 64 - 1)) false [] (digits 16 false b)

-- the test of one digit, which computes, and of those below n
abbrev is_glyph : ℕ → Bool
is_glyph d = eqb (digit_glyph false d) (get_or lower_digits d 0)

abbrev are_glyphs : ℕ → Bool
are_glyphs zero = true
are_glyphs (suc n) = is_glyph n && are_glyphs n

glyph_below : (n d : ℕ) → are_glyphs n ≡ true → d < n → is_glyph d ≡ true
glyph_below zero d all below = absurd (omega (arith, below))
glyph_below (suc n) d all below =
    let parts = and_parts (is_glyph n) (are_glyphs n) all in
    elim (cases_lt d n) [
      | inl less ↦ glyph_below n d parts.1 less
      | inr least ↦
          let e : d ≡ n = omega (arith, below, least) in
          rw e parts.0
    ]

glyph_is : (d : ℕ) → d < 16 → digit_glyph false d ≡ get_or lower_digits d 0
glyph_is d small = eqb-true (digit_glyph false d) (get_or lower_digits d 0) (glyph_below 16 d refl small)

pub hex_none : (known : Option (List ℕ)) → Appends known known (encode_lower [])
unfolding encode_with
hex_none known = appends_none known

encode_with-append : (t xs ys : List ℕ) → encode_with t (xs ++ ys) ≡ encode_with t xs ++ encode_with t ys
unfolding encode_with
encode_with-append t [] ys = refl
encode_with-append t (x ∷ xs) ys =
    ap (λ (zs : List ℕ). get_or t (x / 16) 0 ∷ get_or t (x % 16) 0 ∷ zs) (encode_with-append t xs ys)

encode-one : (b : ℕ) → b < 256 → encode_lower (b ∷ []) ≡ two_digits b
unfolding encode_with
encode-one b small =
    let high = glyph_is (b / 16) (omega arith) in
    let low = glyph_is (b % 16) (omega arith) in
    rw (hex_byte false b small, high, low) refl

encode-more : (xs : List ℕ) (i : ℕ) → i < length xs → get_or xs i 0 < 256
    → encode_lower (take (i + 1) xs) ≡ encode_lower (take i xs) ++ two_digits (get_or xs i 0)
encode-more xs i within small =
    ap encode_lower (take_more xs i 0 within)
    ∙ (encode_with-append lower_digits (take i xs) (get_or xs i 0 ∷ [])
    ∙ ap (λ zs. encode_lower (take i xs) ++ zs) (encode-one (get_or xs i 0) small))

-- one byte more is written
pub hex_more : (old mid new : Option (List ℕ)) (bytes : List ℕ) (i : ℕ) → i < length bytes → get_or bytes i 0 < 256
    → Appends old mid (encode_lower (take i bytes)) → Appends mid new
    (padded_integral (format_spec 32 0 4 2 (2 ^ 64 - 1)) false [] (digits 16 false (get_or bytes i 0)))
    → Appends old new (encode_lower (take (i + 1) bytes))
hex_more old mid new bytes i within small before one =
    subst (Appends old new) (sym (encode-more bytes i within small)) (appends_more old mid new _ _ before one)
