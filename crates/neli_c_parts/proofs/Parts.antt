-- What is put into a list in parts is put there as one.
use Rattle.std.proofs.Common.{◌≡◌, ◌∙◌, ◌<◌, ◌≤◌, ℕ, zero, suc, ◌+◌, ◌-◌, List, [], ◌∷◌, ◌++◌}
use Rattle.std.proofs.Common.{length, slice_set, refl, sym, ap, subst, append-nil, length-append}
use Rattle.std.proofs.Common.{Option, Some, None, Result, Ok, Err, IfOk, IfSome, rules, arith}
use Rattle.std.specs.Prelude.{take, drop}
use lib.ListN.{take-append-drop}
use Rattle.std.specs.List.{FoldsTo, concat}
use Rattle.std.specs.Fmt.{WritesText}
use Rattle.neli_c_parts.specs.declared.room.Room.{Room}
use Rattle.neli_c_parts.specs.Rooms.{Writes, put_at}

module _ {A : Type 0} where
  put-none : (place : ℕ) (xs : List A) → put_at place xs [] ≡ []
  put-none place xs = search rules

  take-none : (n : ℕ) → take {A = A} n [] ≡ []
  take-none n = search rules

  pub put-nothing : (place : ℕ) (out : List A) → put_at place [] out ≡ out
  put-nothing place out =
      let same : place + 0 ≡ place = omega arith in
      ap (λ (n : ℕ). take place out ++ take (length out - place) [] ++ drop n out) same
      ∙ ap (λ (l : List A). take place out ++ l ++ drop place out)
      (take-none (length out - place))
      ∙ ap (λ (l : List A). l ++ drop place out) (append-nil (take place out)) ∙ take-append-drop place out

  put-first : (y : A) (xs : List A) (x : A) (out : List A)
      → put_at 0 (y ∷ xs) (x ∷ out) ≡ y ∷ put_at 0 xs out
  put-first y xs x out = search rules

  put-later : (place : ℕ) (xs : List A) (x : A) (out : List A)
      → put_at (suc place) xs (x ∷ out) ≡ x ∷ put_at place xs out
  put-later place xs x out = search rules

  pub put-then : (place : ℕ) (a b out : List A)
      → put_at (place + length a) b (put_at place a out) ≡ put_at place (a ++ b) out
  put-then place a b [] =
      ap (put_at (place + length a) b) (put-none place a) ∙ put-none (place + length a) b
      ∙ sym (put-none place (a ++ b))
  put-then (suc place) a b (x ∷ out) =
      let next : suc place + length a ≡ suc (place + length a) = omega arith in
      ap (λ (n : ℕ). put_at n b (put_at (suc place) a (x ∷ out))) next
      ∙ ap (put_at (suc (place + length a)) b) (put-later place a x out)
      ∙ put-later (place + length a) b x (put_at place a out)
      ∙ ap (λ (l : List A). x ∷ l) (put-then place a b out) ∙ sym (put-later place (a ++ b) x out)
  put-then zero [] b (x ∷ out) = ap (put_at 0 b) (put-nothing 0 (x ∷ out))
  put-then zero (y ∷ a) b (x ∷ out) =
      let next : 0 + length (y ∷ a) ≡ suc (0 + length a) = omega arith in
      ap (λ (n : ℕ). put_at n b (put_at 0 (y ∷ a) (x ∷ out))) next
      ∙ ap (put_at (suc (0 + length a)) b) (put-first y a x out)
      ∙ put-later (0 + length a) b y (put_at 0 a out)
      ∙ ap (λ (l : List A). y ∷ l) (put-then 0 a b out) ∙ sym (put-first y (a ++ b) x out)

  -- one, and then the others
  pub put-one : (place : ℕ) (x : A) (xs out : List A)
      → put_at (place + 1) xs (put_at place (x ∷ []) out) ≡ put_at place (x ∷ xs) out
  put-one place x xs out =
      let one : place + 1 ≡ place + length (x ∷ []) = omega arith in
      ap (λ (n : ℕ). put_at n xs (put_at place (x ∷ []) out)) one ∙ put-then place (x ∷ []) xs out

  -- two parts, the second where the first ends
  pub put_both : (place at : ℕ) (a b out : List A) → at ≡ place + length a
      → put_at at b (put_at place a out) ≡ put_at place (a ++ b) out
  put_both place at a b out is = ap (λ (k : ℕ). put_at k b (put_at place a out)) is ∙ put-then place a b out

  pub long_both : (a b : List A) → length (a ++ b) ≡ length a + length b
  long_both a b = length-append a b

  -- a store at a place, and one past the end, which is left out
  pub put_stored : (out : List A) (place : ℕ) (x : A) → place < length out
      → slice_set out place x ≡ put_at place (x ∷ []) out
  put_stored [] place x within = absurd (omega (arith, within))
  put_stored (y ∷ out) zero x within =
      let set : slice_set (y ∷ out) 0 x ≡ x ∷ out = search rules in
      set ∙ ap (λ (l : List A). x ∷ l) (sym (put-nothing 0 out)) ∙ sym (put-first x [] y out)
  put_stored (y ∷ out) (suc place) x within =
      let set : slice_set (y ∷ out) (suc place) x ≡ y ∷ slice_set out place x = search rules in
      set ∙ ap (λ (l : List A). y ∷ l) (put_stored out place x (omega (arith, within)))
      ∙ sym (put-later place (x ∷ []) y out)

  pub put_past : (out : List A) (place : ℕ) (x : A) → length out ≤ place
      → put_at place (x ∷ []) out ≡ out
  put_past [] place x past = put-none place (x ∷ [])
  put_past (y ∷ out) zero x past = absurd (omega (arith, past))
  put_past (y ∷ out) (suc place) x past =
      put-later place (x ∷ []) y out
      ∙ ap (λ (l : List A). y ∷ l) (put_past out place x (omega (arith, past)))

-- what is written in parts is written as one
abbrev Written : Room → List ℕ → Room → Type 0
Written r text s =
    (s.size ≡ r.size + length text) × (s.out.now ≡ put_at r.size text r.out.now)
    × (s.out.ghost_name ≡ r.out.ghost_name)

written-then : (r q s : Room) (a b : List ℕ) → Written r a q → Written q b s → Written r (a ++ b) s
written-then r q s a b (n, wrote, name) (n', wrote', name') =
    let sum : s.size ≡ r.size + length (a ++ b) = grind (arith, length-append) in
    let at : put_at q.size b q.out.now ≡ put_at (r.size + length a) b (put_at r.size a r.out.now) =
    ap (λ (m : ℕ). put_at m b q.out.now) n ∙ ap (put_at (r.size + length a) b) wrote in
    (sum, wrote' ∙ at ∙ put-then r.size a b r.out.now, name' ∙ name)

parts-written : (r : Room) (parts : List (List ℕ)) (s : Room) → FoldsTo Writes r parts s
    → Written r (concat parts) s
parts-written r [] s same =
    let none : r.size ≡ r.size + length {A = ℕ} [] = omega arith in
    subst (Written r []) same (none, sym (put-nothing r.size r.out.now), refl)
parts-written r (part ∷ parts) s (q, wrote, calls) =
    written-then r q s part (concat parts) wrote (parts-written q parts s calls)

-- a text that is written into bytes from a place on: where it ends, and the bytes afterwards
pub text-end : (r s : Room) (o : Option (List ℕ)) (place : ℕ) → r.size ≡ place
    → WritesText Writes r o s → IfSome o (λ text. s.size ≡ place + length text)
text-end r s None place first wrote = tt
text-end r s (Some text) place first wrote =
    let all : Written r text s =
    subst (λ (t : List ℕ). Written r t s) wrote.whole (parts-written r wrote.parts s wrote.calls) in
    all.0 ∙ ap (λ (n : ℕ). n + length text) first

pub text-put : (r s : Room) (o : Option (List ℕ)) (out : List ℕ) (place : ℕ) → r.size ≡ place
    → (s.out.ghost_name ≡ r.out.ghost_name → out ≡ s.out.now) → WritesText Writes r o s
    → IfSome o (λ text. out ≡ put_at place text r.out.now)
text-put r s None out place first back wrote = tt
text-put r s (Some text) out place first back wrote =
    let all : Written r text s =
    subst (λ (t : List ℕ). Written r t s) wrote.whole (parts-written r wrote.parts s wrote.calls) in
    back all.2 ∙ all.1 ∙ ap (λ (n : ℕ). put_at n text r.out.now) first

-- from the first byte on it ends where it is so long
pub from-front : {E : Type 0} (r : Result ℕ E) (o : Option (List ℕ))
    → IfOk r (λ end. IfSome o (λ text. end ≡ 0 + length text))
    → IfOk r (λ size. IfSome o (λ text. size ≡ length text))
from-front (Err e) o ends = tt
from-front (Ok n) None ends = tt
from-front (Ok n) (Some text) ends = let ended : n ≡ 0 + length text = ends in omega (arith, ended)
