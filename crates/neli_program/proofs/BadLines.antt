-- Lines that are good, and the first that is not.
use Rattle.std.proofs.Common.{◌≡◌, ◌⊎◌, inl, inr, ℕ, suc, ◌+◌, ◌<◌, Bool, true, false, List, [], ◌∷◌, length, take}
use Rattle.std.proofs.Common.{Option, Some, None, Result, Ok, Err, refl, arith}
use Rattle.std.specs.Prelude.{IsSome}
use Rattle.neli_program.specs.declared.entry.Entry.{Entry}
use Rattle.neli_program.specs.Script.{AreGood, IsFirstBad, entry_if, entries_from, entries_of, entry_in, lines_in}
use Rattle.neli_program.specs.Script.{with_line, words_in}

with_ok : (k : ℕ) (o : Option Entry) (later : Result (List Entry) ℕ) (es : List Entry) → with_line k o later ≡ Ok es
    → IsSome o × ((rest : List Entry) × (later ≡ Ok rest))
with_ok k None later es is = absurd cc
with_ok k (Some e) (Ok rest) es is = (refl, (rest, refl))
with_ok k (Some e) (Err j) es is = absurd cc

with_err : (k : ℕ) (o : Option Entry) (later : Result (List Entry) ℕ) (j : ℕ) → with_line k o later ≡ Err j
    → ((o ≡ None) × (j ≡ k)) ⊎ (IsSome o × (later ≡ Err j))
with_err k None later j is = let e : j ≡ k = cc in inl (refl, e)
with_err k (Some e) (Ok rest) j is = absurd cc
with_err k (Some e) (Err i) j is = inr (refl, is)

good_from : (first : Bool) (n : ℕ) (lines : List (List ℕ)) (es : List Entry) → entries_from first n lines ≡ Ok es
    → AreGood first lines
good_from first n [] es is = tt
good_from first n ([] ∷ lines) es is = good_from first (n + 1) lines es is
good_from first n ((b ∷ line) ∷ lines) es is =
    let parts = with_ok n (entry_if first (entry_in (words_in (b ∷ line)))) (entries_from false (n + 1) lines) es is in
    (parts.0, good_from false (n + 1) lines parts.1.0 parts.1.1)

-- the lines before are good, and not with the next
abbrev IsFirst : Bool → ℕ → List (List ℕ) → ℕ → Type 0
IsFirst first n lines k =
    (before : ℕ) × (k ≡ n + before) × (before < length lines) × AreGood first (take before lines)
    × (¬ AreGood first (take (suc before) lines))

no_none : {A : Type 0} (o : Option A) → o ≡ None → IsSome o → ⊥
no_none None is some = absurd cc
no_none (Some x) is some = absurd cc

first_from : (first : Bool) (n : ℕ) (lines : List (List ℕ)) (k : ℕ) → entries_from first n lines ≡ Err k
    → IsFirst first n lines k
first_from first n [] k is = absurd cc
first_from first n ([] ∷ lines) k is =
    let later = first_from first (n + 1) lines k is in
    (suc later.0, omega (arith, later.1), omega (arith, later.2), later.3, later.4)
first_from first n ((b ∷ line) ∷ lines) k is =
    let said = entry_if first (entry_in (words_in (b ∷ line))) in
    elim (with_err n said (entries_from false (n + 1) lines) k is) [
      | inl bad ↦ (0, omega (arith, bad.1), omega arith, tt, λ good. no_none said bad.0 good.0)
      | inr some ↦
          let later = first_from false (n + 1) lines k some.1 in
          (suc later.0, omega (arith, later.1), omega (arith, later.2), (some.0, later.3), λ good. later.4 good.1)
    ]

pub good_lines : (text : List ℕ) (entries : List Entry) → entries_of text ≡ Ok entries → AreGood true (lines_in text)
good_lines text entries is = good_from true 1 (lines_in text) entries is

pub first_bad : (text : List ℕ) (k : ℕ) → entries_of text ≡ Err k → IsFirstBad (lines_in text) k
first_bad text k is =
    let found = first_from true 1 (lines_in text) k is in
    let next : k ≡ suc found.0 = omega (arith, found.1) in
    (found.0, omega (arith, found.1), found.2, found.3, rw next found.4)
