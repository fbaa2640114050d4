-- The lines of a text, and the words of a line.
use Rattle.std.specs.Prelude.{ℕ, ◌+◌, Bool, ◌==◌, if◌then◌else◌, List, [], ◌∷◌, length, map, slice_index}
use Rattle.std.specs.List.{slice_split}
use Rattle.neli_tables.specs.declared.text.Worded.{Worded}

-- a word that begins with `#` starts a comment
abbrev pub begins_comment : List ℕ → Bool
begins_comment word = slice_index word 0 == 35

-- the words among the parts between blanks: those that are not empty, up to a comment
abbrev pub words_among : List (List ℕ) → List (List ℕ)
words_among [] = []
words_among (part ∷ parts) =
    if begins_comment part then []
    else (if length part == 0 then words_among parts else part ∷ words_among parts)

-- the words of a line
abbrev pub words_in : List ℕ → List (List ℕ)
words_in line = words_among (slice_split (λ b. b == 32) line)

-- a line's number and its words, if it has words, before those of the other lines
abbrev pub with_words : ℕ → List (List ℕ) → List (ℕ × List (List ℕ)) → List (ℕ × List (List ℕ))
with_words number [] others = others
with_words number (word ∷ words) others = (number, word ∷ words) ∷ others

-- of these lines, the first of them with this number, those with words
abbrev pub worded_from : ℕ → List (List ℕ) → List (ℕ × List (List ℕ))
worded_from number [] = []
worded_from number (line ∷ lines) = with_words number (words_in line) (worded_from (number + 1) lines)

-- the lines of a text with words, counted from 1
abbrev pub worded_in : List ℕ → List (ℕ × List (List ℕ))
worded_in text = worded_from 1 (slice_split (λ b. b == 10) text)

-- the view of such a line
abbrev pub worded_view : Worded → ℕ × List (List ℕ)
worded_view line = (line.number, map (λ word. word.now) line.words.items)
