-- The places of lines.
use Rattle.std.proofs.Common.{Bor, get_or, ◌<◌, ◌≡◌, ◌∙◌, ℕ, ◌+◌, ◌&&◌, cond, List, ◌∷◌, length}
use Rattle.std.proofs.Common.{drop, map, Option, Some, sym, ap, arith}
use Rattle.std.specs.Str.{bytes_eq}
use Rattle.std.proofs.lemmas.List.{drop_more, get_or-map, length-map}
use Rattle.neli_tables.specs.declared.text.Worded.{Worded}
use Rattle.neli_tables.specs.declared.word.Word.{Word}
use Rattle.neli_tables.specs.Names.{head_of, head_view, is_head, place_before, place_in, word_text}
use Rattle.neli_tables.specs.Text.{worded_view}

-- the lines from this one on
pub line_left : (lines : List Worded) (i : ℕ) (d : Worded) → i < length lines
    → drop i (map worded_view lines) ≡ worded_view (get_or lines i d) ∷ drop (i + 1) (map worded_view lines)
line_left lines i d within =
    drop_more (map worded_view lines) i (worded_view d) (omega (arith, within, length-map lines worded_view))
    ∙ ap (λ line. line ∷ drop (i + 1) (map worded_view lines)) (get_or-map worded_view lines i d (worded_view d) within)

-- one line more, before those that were noted
pub place_more : (w : Word) (name : List ℕ) (lines : List Worded) (i j : ℕ) (d : Worded) (found later : Option ℕ)
    → i + 1 ≡ j → i < length lines → later ≡ place_in w name j (drop j (map worded_view lines))
    → found ≡ place_before w name i (worded_view (get_or lines i d)).1 later
    → found ≡ place_in w name i (drop i (map worded_view lines))
place_more w name lines i j d found later e within before one =
    one
    ∙ ap (place_before w name i (worded_view (get_or lines i d)).1)
    (before ∙ ap (λ k. place_in w name k (drop k (map worded_view lines))) (sym e))
    ∙ ap (place_in w name i) (sym (line_left lines i d within))

-- the result of a search once a line is noted
pub place_noted : (w : Word) (name : List ℕ) (place : ℕ) (words : List (List ℕ))
    (key : Bor (List ℕ) × Bor (List ℕ)) (found before : Option ℕ) → Some (head_view key) ≡ head_of words
    → found ≡ cond (bytes_eq key.0.now (word_text w) && bytes_eq key.1.now name) (Some place) before
    → found ≡ place_before w name place words before
place_noted w name place words key found before is updated =
    updated ∙ ap (λ h. cond (is_head w name h) (Some place) before) is
