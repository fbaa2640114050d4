-- IP addresses have no byte that a string escapes.
use Rattle.std.proofs.Common.{◌≡◌, ℕ, zero, suc, ◌+◌, ◌/◌, ◌%◌, true, List, [], ◌∷◌, ◌++◌, codes}
use Rattle.std.proofs.Common.{take, drop, refl}
use Rattle.std.specs.Prelude.{nat_lt, bytes_eq}
use Rattle.std.specs.Char.{digit_char}
use Rattle.std.specs.Fmt.{decimal}
use Rattle.std.specs.List.{flat_map, list_all}
use Rattle.std.specs.Net.Text.{compressed_text, dotted_text, groups_text, hex, hex_groups_text}
use Rattle.std.specs.Net.Text.{ipv6_text}
use Rattle.std.specs.Net.Text.{leading_zero_digits, longest_zero_run}
use Rattle.std.proofs.lemmas.Bool.{and_from, and_parts, cond_both}
use Rattle.neli_tables_walk.specs.Json.{is_plain}
use Rattle.neli_tables_walk.specs.laws.Strings.{digits-plain, plain-append, glyph-plain}

hex-plain : (n : ℕ) → list_all is_plain (hex n) ≡ true
unfolding hex
hex-plain n = drop-plain (leading_zero_digits n) _ (
    four (digit_char (n / 0x1000)) (digit_char (n / 0x100 % 16)) (digit_char (n / 0x10 % 16))
    (digit_char (n % 16))
    (glyph-plain (n / 0x1000)) (glyph-plain (n / 0x100 % 16)) (glyph-plain (n / 0x10 % 16))
    (glyph-plain (n % 16)))
  where
    drop-plain : (k : ℕ) (t : List ℕ) → list_all is_plain t ≡ true
        → list_all is_plain (drop k t) ≡ true
    drop-plain zero t is = is
    drop-plain (suc k) [] is = refl
    drop-plain (suc k) (b ∷ t) is =
        drop-plain k t (and_parts (is_plain b) (list_all is_plain t) is).1

    four : (a b c d : ℕ) → is_plain a ≡ true → is_plain b ≡ true → is_plain c ≡ true
        → is_plain d ≡ true
        → list_all is_plain (a ∷ b ∷ c ∷ d ∷ []) ≡ true
    four a b c d p q r s =
        and_from (is_plain a) _ p
        (and_from (is_plain b) _ q (and_from (is_plain c) _ r (and_from (is_plain d) true s refl)))

later-plain : (segments : List ℕ)
    → list_all is_plain (flat_map (λ t. codes ":" ++ hex t) segments) ≡ true
later-plain [] = refl
later-plain (s ∷ rest) = plain-append (codes ":" ++ hex s) _ (hex-plain s) (later-plain rest)

groups-plain : (segments : List ℕ) → list_all is_plain (groups_text segments) ≡ true
groups-plain [] = refl
groups-plain (s ∷ rest) = plain-append (hex s) _ (hex-plain s) (later-plain rest)

compressed-plain : (segments : List ℕ) (run : ℕ × ℕ)
    → list_all is_plain (compressed_text segments run) ≡ true
compressed-plain segments run =
    cond_both (nat_lt 1 run.1) _ _ (λ t. list_all is_plain t ≡ true)
    (λ e. plain-append (groups_text (take run.0 segments) ++ codes "::") (groups_text (drop
    (run.0 + run.1) segments))
    (plain-append (groups_text (take run.0 segments)) (codes "::") (groups-plain
    (take run.0 segments)) refl)
    (groups-plain (drop (run.0 + run.1) segments)))
    (λ e. groups-plain segments)

hex_groups-plain : (segments : List ℕ) → list_all is_plain (hex_groups_text segments) ≡ true
unfolding hex_groups_text
hex_groups-plain segments = compressed-plain segments (longest_zero_run segments)

pub dotted-plain : (a b c d : ℕ) → list_all is_plain (dotted_text a b c d) ≡ true
dotted-plain a b c d =
    let dot : (t : List ℕ) (n : ℕ) → list_all is_plain t ≡ true → list_all is_plain (t
    ++ codes "." ++ decimal n) ≡ true
    = λ t n is. plain-append (t ++ codes ".") (decimal n) (plain-append t (codes ".") is refl)
    (digits-plain 10 n) in
    dot (decimal a ++ codes "." ++ decimal b ++ codes "." ++ decimal c) d
    (dot (decimal a ++ codes "." ++ decimal b) c (dot (decimal a) b (digits-plain 10 a)))

pub ipv6-plain : (segments : List ℕ) → list_all is_plain (ipv6_text segments) ≡ true
unfolding ipv6_text
ipv6-plain segments =
    cond_both (bytes_eq (take 6 segments) (0 ∷ 0 ∷ 0 ∷ 0 ∷ 0 ∷ 0xffff ∷ [])) _ _
    (λ t. list_all is_plain t ≡ true)
    (λ e. dotted-plain _ _ _ _) (λ e. hex_groups-plain segments)
