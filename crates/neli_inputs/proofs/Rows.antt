-- The words of a row, one by one.
use Rattle.std.proofs.Common.{◌≡◌, ◌∙◌, ◌+◌, ◌<◌, ℕ, true, false, List, ◌∷◌, ◌++◌, map, drop, get_or, length}
use Rattle.std.proofs.Common.{Option, Some, None, refl, ap, sym, append_assoc, arith, drop-cons, suc}
use Rattle.std.specs.Borrow.{Bor}
use Rattle.std.specs.Option.{option_map}
use Rattle.neli_inputs.specs.Lines.{ends_row, is_of_row, row_digits}

-- before what follows a word
before-word : (before word : List ℕ) (digits : Option (List ℕ))
    → option_map (λ (ds : List ℕ). before ++ ds) (option_map (λ (ds : List ℕ). word ++ ds) digits)
    ≡ option_map (λ (ds : List ℕ). (before ++ word) ++ ds) digits
before-word before word None = refl
before-word before word (Some ds) = ap Some (sym (append_assoc before word ds))

word-more : (index : ℕ) (before word : List ℕ) (words : List (List ℕ)) → ends_row index word ≡ false
    → is_of_row word ≡ true
    → option_map (λ (ds : List ℕ). before ++ ds) (row_digits index (word ∷ words))
    ≡ option_map (λ (ds : List ℕ). (before ++ word) ++ ds) (row_digits (index + 1) words)
word-more index before word words goes fits =
    rw (goes, fits) (before-word before word (row_digits (index + 1) words))

-- a word more
pub row-more : (index : ℕ) (before : List ℕ) (words : List (Bor (List ℕ))) (word : Bor (List ℕ))
    → index < length words → ends_row index (get_or words index word).now ≡ false
    → is_of_row (get_or words index word).now ≡ true
    → option_map (λ (ds : List ℕ). before ++ ds) (row_digits index (map (λ (w : Bor (List ℕ)). w.now) (drop index words)))
    ≡ option_map (λ (ds : List ℕ). (before ++ (get_or words index word).now) ++ ds)
    (row_digits (index + 1) (map (λ (w : Bor (List ℕ)). w.now) (drop (index + 1) words)))
row-more index before words word within goes fits =
    let e : suc index ≡ index + 1 = omega arith in
    let cut : drop index words ≡ get_or words index word ∷ drop (index + 1) words =
    drop-cons words index word within ∙ ap (λ (n : ℕ). get_or words index word ∷ drop n words) e in
    rw cut
    (word-more index before (get_or words index word).now (map (λ (w : Bor (List ℕ)). w.now) (drop (index + 1) words)) goes fits)
