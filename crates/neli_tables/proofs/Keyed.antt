-- Keys, and the lines that have them.
use Rattle.std.proofs.Common.{get_or, ◌≡◌, ◌∙◌, ℕ, ◌+◌, ◌<◌, Bool, true, false, ◌&&◌, ◌==◌, cond, List}
use Rattle.std.proofs.Common.{drop, length, map, Option, Some, None}
use Rattle.std.proofs.Common.{refl, sym, ap}
use Rattle.std.specs.Option.{option_or}
use Rattle.std.specs.Cmp.{first_so, second_so}
use Rattle.std.proofs.lemmas.Bool.{eqb-true}
use Rattle.neli_tables.specs.declared.line.Line.{Line}
use Rattle.neli_tables.specs.Lines.{line_view}
use Rattle.neli_tables.specs.Index.{first_found}
use Rattle.neli_tables.specs.RowKeys.{Key, has_key, key_of, place_from, section_after}
use Rattle.neli_tables.proofs.PassedRows.{turn_at}

-- ---- keys that are the same

pub key_is : (key k : Key) → has_key key (Some k) ≡ true → k ≡ key
key_is key k e =
    let early = first_so (k.0 == key.0 && k.1 == key.1) (k.2 == key.2) e in
    λ i. (
      eqb-true k.0 key.0 (first_so _ (k.1 == key.1) early) i,
      eqb-true k.1 key.1 (second_so (k.0 == key.0) _ early) i,
      eqb-true k.2 key.2 (second_so (k.0 == key.0 && k.1 == key.1) _ e) i,
    )

-- ---- what is found once a line is noted

module _ (finds : Key → Option ℕ) (key : Key) (place : ℕ) where
  -- a line before has the key
  pub noted_before : (k : Key) (first : ℕ) → finds key ≡ Some first
      → finds k ≡ first_found (finds k) k (Some key) place
  noted_before k first is = by (finds k) (has_key k (Some key)) refl refl
    where
      by : (o : Option ℕ) (b : Bool) → finds k ≡ o → has_key k (Some key) ≡ b
          → o ≡ option_or o (cond b (Some place) None)
      by (Some p) b e h = refl
      by None false e h = refl
      by None true e h = let no : None ≡ Some first = sym e ∙ ap finds (sym (key_is k key h)) ∙ is in absurd cc

  -- none before has it
  pub noted_here : (k : Key) (after : Option ℕ) → finds key ≡ None
      → after ≡ cond (has_key k (Some key)) (Some place) (finds k)
      → after ≡ first_found (finds k) k (Some key) place
  noted_here k after none is =
      is ∙ by (finds k) (has_key k (Some key)) refl refl
    where
      by : (o : Option ℕ) (b : Bool) → finds k ≡ o → has_key k (Some key) ≡ b
          → cond b (Some place) o ≡ option_or o (cond b (Some place) None)
      by None b e h = refl
      by (Some p) false e h = refl
      by (Some p) true e h = let no : None ≡ Some p = sym none ∙ ap finds (key_is k key h) ∙ e in absurd cc

-- ---- the lines that were passed, and those to come

either : (found : Option ℕ) (b : Bool) (place : ℕ) (later : Option ℕ)
    → option_or found (cond b (Some place) later) ≡ option_or (option_or found (cond b (Some place) None)) later
either (Some p) b place later = refl
either None true place later = refl
either None false place later = refl

-- one line more is noted
pub pass_line : (key : Key) (whole : Option ℕ) (lines : List Line) (i section : ℕ) (x : Line) (found after : Option ℕ)
    → whole ≡ option_or found (place_from key section i (drop i (map line_view lines))) → i < length lines
    → x ≡ get_or lines i x
    → after ≡ first_found found key (key_of (section_after section i x.word) (line_view x)) i
    → whole ≡ option_or after (place_from key (section_after section i x.word) (i + 1)
    (drop (i + 1) (map line_view lines)))
pass_line key whole lines i section x found after said within at is =
    let inner = section_after section i x.word in
    let later = place_from key inner (i + 1) (drop (i + 1) (map line_view lines)) in
    turn_at line_view (λ ls. option_or found (place_from key section i ls)) whole lines i x said within at
    ∙ either found (has_key key (key_of inner (line_view x))) i later
    ∙ ap (λ o. option_or o later) (sym is)
