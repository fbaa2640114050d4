-- Lines and their words, one after the other.
use Rattle.std.proofs.Common.{Bor, get_or, ◌<◌, ◌≡◌, ◌∙◌, ℕ, ◌+◌, suc, Bool, true, false, not, eqb, List, [], ◌∷◌, ◌++◌}
use Rattle.std.proofs.Common.{length, drop, filter, map, take, refl, sym, ap, arith, append_assoc}
use Rattle.std.specs.List.{prefix_len}
use Rattle.std.proofs.lemmas.List.{drop_more, get_or-map, length-map}
use Rattle.neli_tables.specs.Text.{begins_comment, with_words, words_among, words_in, worded_from}

abbrev pub bytes_in : List (Bor (List ℕ)) → List (List ℕ)
bytes_in parts = map (λ part. part.now) parts

pub part_left : (parts : List (Bor (List ℕ))) (i : ℕ) (d : Bor (List ℕ)) → i < length parts
    → drop i (bytes_in parts) ≡ (get_or parts i d).now ∷ drop (i + 1) (bytes_in parts)
part_left parts i d within =
    drop_more (bytes_in parts) i d.now (omega (arith, within, length-map parts (λ (part : Bor (List ℕ)). part.now)))
    ∙ ap (λ part. part ∷ drop (i + 1) (bytes_in parts))
    (get_or-map (λ (part : Bor (List ℕ)). part.now) parts i d d.now within)

-- ---- words

abbrev pub is_said : List ℕ → Bool
is_said word = not (begins_comment word)

abbrev pub is_filled : List ℕ → Bool
is_filled word = not (eqb (length word) 0)

-- the words of a line are the parts up to a comment that are not empty
pub among : (parts : List (List ℕ)) → words_among parts ≡ filter is_filled (take (prefix_len is_said parts) parts)
among [] = refl
among (part ∷ parts) = by (begins_comment part) (eqb (length part) 0) refl refl (among parts)
  where
    taken : take (1 + prefix_len is_said parts) (part ∷ parts) ≡ part ∷ take (prefix_len is_said parts) parts
    taken = let one : suc (prefix_len is_said parts) ≡ 1 + prefix_len is_said parts = omega arith in
        ap (λ n. take n (part ∷ parts)) (sym one)

    by : (b e : Bool) → begins_comment part ≡ b → eqb (length part) 0 ≡ e
        → words_among parts ≡ filter is_filled (take (prefix_len is_said parts) parts)
        → words_among (part ∷ parts) ≡ filter is_filled (take (prefix_len is_said (part ∷ parts)) (part ∷ parts))
    by true e is none rest = rw is refl
    by false true is none rest = rw (is, taken, none) rest
    by false false is none rest = rw (is, taken, none) (ap (λ ws. part ∷ ws) rest)

-- ---- lines

wordless_first : (k : ℕ) (line : List ℕ) (lines : List (List ℕ)) (words : List (List ℕ)) → words_in line ≡ words
    → length words ≡ 0 → worded_from k (line ∷ lines) ≡ worded_from (k + 1) lines
wordless_first k line lines [] is none = ap (λ ws. with_words k ws (worded_from (k + 1) lines)) is
wordless_first k line lines (w ∷ ws) is none = absurd (omega (arith, none))

worded_first : (k : ℕ) (line : List ℕ) (lines : List (List ℕ)) (words : List (List ℕ)) → words_in line ≡ words
    → 0 < length words → worded_from k (line ∷ lines) ≡ (k, words) ∷ worded_from (k + 1) lines
worded_first k line lines [] is some = absurd (omega (arith, some))
worded_first k line lines (w ∷ ws) is some = ap (λ ws. with_words k ws (worded_from (k + 1) lines)) is

pub pass_wordless : (whole before : List (ℕ × List (List ℕ))) (lines : List (Bor (List ℕ))) (i : ℕ) (d : Bor (List ℕ))
    (words : List (List ℕ)) → whole ≡ before ++ worded_from (i + 1) (drop i (bytes_in lines)) → i < length lines
    → words_in (get_or lines i d).now ≡ words → length words ≡ 0
    → whole ≡ before ++ worded_from (i + 1 + 1) (drop (i + 1) (bytes_in lines))
pass_wordless whole before lines i d words said within is none =
    said ∙ ap (λ ws. before ++ ws) (ap (worded_from (i + 1)) (part_left lines i d within)
    ∙ wordless_first (i + 1) (get_or lines i d).now (drop (i + 1) (bytes_in lines)) words is none)

pub pass_worded : (whole before : List (ℕ × List (List ℕ))) (lines : List (Bor (List ℕ))) (i : ℕ) (d : Bor (List ℕ))
    (words : List (List ℕ)) → whole ≡ before ++ worded_from (i + 1) (drop i (bytes_in lines)) → i < length lines
    → words_in (get_or lines i d).now ≡ words → 0 < length words
    → whole ≡ (before ++ (i + 1, words) ∷ []) ++ worded_from (i + 1 + 1) (drop (i + 1) (bytes_in lines))
pass_worded whole before lines i d words said within is some =
    said ∙ ap (λ ws. before ++ ws) (ap (worded_from (i + 1)) (part_left lines i d within)
    ∙ worded_first (i + 1) (get_or lines i d).now (drop (i + 1) (bytes_in lines)) words is some)
    ∙ sym (append_assoc before ((i + 1, words) ∷ []) (worded_from (i + 1 + 1) (drop (i + 1) (bytes_in lines))))
