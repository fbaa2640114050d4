-- Texts character by character.
use Rattle.std.proofs.Common.{◌≡◌, ℕ, List, [], ◌∷◌, ◌++◌, ◌<◌, length, refl, arith, sym, ap, ◌∙◌}
use Rattle.std.proofs.Common.{append_assoc, append-nil}
use Rattle.std.proofs.lemmas.List.{nil_from_length}
use Rattle.std.proofs.lemmas.Str.{chars_past_char, chars-nil}
use Rattle.std.specs.Char.{encode_utf8}
use Rattle.std.specs.List.{flat_map, list_all}
use Rattle.std.specs.Str.{IsUtf8}
use Rattle.std.specs.Cmp.{first_so, second_so}
use Rattle.std.specs.Prelude.{Bool, Option, Some, None, true, ◌&&◌, if◌then◌else◌, option_and_then, unwrap_or}
use Rattle.std.proofs.lemmas.Bool.{cond_both}
use Rattle.std.specs.Str.{is_utf8}
use Rattle.std.proofs.lemmas.List.Sums.{AllPass-from_list_all}
use Rattle.std.proofs.lemmas.Str.{chars-IsAscii, encode_ascii}
use Rattle.std.proofs.lemmas.Str.Ascii.{IsAscii-from_all}
use Rattle.neli_tables.specs.Lines.{LineSeen}
use Rattle.neli_tables.specs.Plain.{is_plain, plain_name}
use Rattle.neli_tables_walk.specs.Names.{escaped_or_hex, name_in, name_text}
use Rattle.neli_tables_walk.specs.Quoted.{escaped, escaped_char, text_in}

-- a text's first character stands first
escaped_first :
    (bs rest : List ℕ) (c : ℕ) → IsUtf8 bs → bs ≡ encode_utf8 c ++ rest
    → escaped bs ≡ escaped_char c ++ escaped rest
escaped_first bs rest c text is = ap (flat_map escaped_char) (chars_past_char bs rest c text is)

-- and is written before the rest
pub escaped_step :
    (done bs rest all : List ℕ) (c : ℕ) → IsUtf8 bs → bs ≡ encode_utf8 c ++ rest → done
    ++ escaped bs ≡ all
    → (done ++ escaped_char c) ++ escaped rest ≡ all
escaped_step done bs rest all c text is so_far =
    append_assoc done (escaped_char c) (escaped rest) ∙ ap (λ (l : List ℕ). done ++ l)
    (sym (escaped_first bs rest c text is)) ∙ so_far

-- the text before an empty rest is all written
pub escaped_end : (done bs all : List ℕ) → length bs ≡ 0 → done ++ escaped bs ≡ all → done ≡ all
escaped_end done bs all empty so_far =
    sym (append-nil done) ∙ ap (λ (l : List ℕ). done ++ l)
    (sym (ap escaped (nil_from_length bs empty) ∙ ap (flat_map escaped_char) chars-nil)) ∙ so_far

-- ---- texts that stand as themselves

plain_char : (b : ℕ) → is_plain b ≡ true → escaped_char b ≡ b ∷ []
plain_char b plain = grind (arith, encode_ascii)

plain_chars : (bs : List ℕ) → list_all is_plain bs ≡ true → flat_map escaped_char bs ≡ bs
plain_chars [] plain = refl
plain_chars (b ∷ bs) plain =
    ap (λ (l : List ℕ). l ++ flat_map escaped_char bs)
    (plain_char b (first_so (is_plain b) (list_all is_plain bs) plain))
    ∙ ap (λ (l : List ℕ). b ∷ l)
    (plain_chars bs (second_so (is_plain b) (list_all is_plain bs) plain))

below_128 : (b : ℕ) → is_plain b ≡ true → b < 128
below_128 b plain = grind arith

-- such a text is its own form in a string
pub escaped_plain : (text : List ℕ) → list_all is_plain text ≡ true → escaped text ≡ text
escaped_plain text plain =
    ap (flat_map escaped_char) (chars-IsAscii text (IsAscii-from_all text
    (λ k d within. below_128 _ (AllPass-from_list_all is_plain text plain k d within))))
    ∙ plain_chars text plain

-- a name that is kept is printed as it stands
plain_text : (name : List ℕ) → list_all is_plain name ≡ true → is_utf8 name ≡ true → name ≡ name_text name
unfolding text_in
plain_text name plain is =
    sym (ap (λ (b : Bool). escaped_or_hex name (if b then Some name else None)) is ∙ escaped_plain name plain)

pub kept_text : (line : LineSeen) (text : List ℕ) → Some text ≡ plain_name line → text ≡ name_text line.name
kept_text line text =
    let plain = list_all is_plain line.name in
    let valid = is_utf8 line.name in
    cond_both (plain && valid) (Some line.name) None
    (λ (o : Option (List ℕ)). Some text ≡ o → text ≡ name_text line.name)
    (λ e is. ap (λ (o : Option (List ℕ)). unwrap_or o text) is
    ∙ plain_text line.name (first_so plain valid e) (second_so plain valid e))
    (λ e is. cc)

-- and so is that of the line at a place
pub kept_name : (line : Option LineSeen) (text : List ℕ) → Some text ≡ option_and_then plain_name line
    → text ≡ name_text (name_in line)
kept_name (Some line) text is = kept_text line text is
kept_name None text is = cc
