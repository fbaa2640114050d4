-- The options of a line, one after the other.
use Rattle.std.proofs.Common.{Bor, get_or, ◌<◌, ◌≡◌, ◌∙◌, ℕ, ◌+◌, Bool, true, false, cond, List, [], ◌∷◌}
use Rattle.std.proofs.Common.{◌++◌, length}
use Rattle.std.proofs.Common.{drop, Option, Result, Ok, Err, ap}
use Rattle.neli_tables.specs.declared.setting.Setting.{Setting}
use Rattle.neli_tables.specs.declared.why.Why.{Why}
use Rattle.neli_tables.specs.declared.why.Why.TheVariants as why
use Rattle.neli_tables.specs.declared.word.Word.{Word}
use Rattle.neli_tables.specs.Refusals.{and_then}
use Rattle.neli_tables.specs.Settings.{has_slot, once, setting_in, settings_from}
use Rattle.neli_tables.proofs.Texts.{bytes_in, part_left}

abbrev Find : Type 0
Find = Word → List ℕ → Option ℕ

abbrev Seen : Type 0
Seen = Setting (List ℕ)

-- the options, if this is the next
abbrev next : Find → List Seen → List (List ℕ) → Result Seen Why → Result (List Seen) Why
next find before words read =
    and_then (and_then read (once before)) (λ setting. settings_from find (before ++ setting ∷ []) words)

-- an option that stands before the words to come
turn : (find : Find) (whole : Result (List Seen) Why) (before : List Seen) (words : List (Bor (List ℕ))) (i : ℕ)
    (d : Bor (List ℕ)) → whole ≡ settings_from find before (drop i (bytes_in words)) → i < length words
    → whole ≡ next find before (drop (i + 1) (bytes_in words)) (setting_in find (get_or words i d).now)
turn find whole before words i d said within =
    said ∙ ap (settings_from find before) (part_left words i d within)

pub pass_refused : (find : Find) (whole : Result (List Seen) Why) (before : List Seen) (words : List (Bor (List ℕ)))
    (i : ℕ) (d : Bor (List ℕ)) (w : Why) → whole ≡ settings_from find before (drop i (bytes_in words)) → i < length words
    → setting_in find (get_or words i d).now ≡ Err w → whole ≡ Err w
pass_refused find whole before words i d w said within is =
    turn find whole before words i d said within
    ∙ ap (next find before (drop (i + 1) (bytes_in words))) is

checked : (find : Find) (before : List Seen) (words : List (List ℕ)) (s : Seen) (b : Bool)
    → has_slot before s.said ≡ b
    → next find before words (Ok s) ≡ cond b (Err why.Twice) (settings_from find (before ++ s ∷ []) words)
checked find before words s true is =
    ap (λ b. and_then (cond b (Err why.Twice) (Ok s)) (λ setting. settings_from find (before ++ setting ∷ []) words)) is
checked find before words s false is =
    ap (λ b. and_then (cond b (Err why.Twice) (Ok s)) (λ setting. settings_from find (before ++ setting ∷ []) words)) is

pub pass_twice : (find : Find) (whole : Result (List Seen) Why) (before : List Seen) (words : List (Bor (List ℕ))) (i : ℕ)
    (d : Bor (List ℕ)) (s : Seen) → whole ≡ settings_from find before (drop i (bytes_in words)) → i < length words
    → setting_in find (get_or words i d).now ≡ Ok s → has_slot before s.said ≡ true → whole ≡ Err why.Twice
pass_twice find whole before words i d s said within is twice =
    turn find whole before words i d said within ∙ ap (next find before (drop (i + 1) (bytes_in words))) is
    ∙ checked find before (drop (i + 1) (bytes_in words)) s true twice

pub pass_setting : (find : Find) (whole : Result (List Seen) Why) (before : List Seen) (words : List (Bor (List ℕ)))
    (i : ℕ) (d : Bor (List ℕ)) (s : Seen) → whole ≡ settings_from find before (drop i (bytes_in words)) → i < length words
    → setting_in find (get_or words i d).now ≡ Ok s → has_slot before s.said ≡ false
    → whole ≡ settings_from find (before ++ s ∷ []) (drop (i + 1) (bytes_in words))
pass_setting find whole before words i d s said within is once =
    turn find whole before words i d said within ∙ ap (next find before (drop (i + 1) (bytes_in words))) is
    ∙ checked find before (drop (i + 1) (bytes_in words)) s false once
