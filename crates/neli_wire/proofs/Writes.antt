-- Writing values one after the other.
use Rattle.std.proofs.Common.{◌≡◌, ℕ, ◌+◌, ◌<◌, ◌≤◌, List, ◌++◌, length, take, drop}
use Rattle.std.proofs.Common.{get_or, Ok, Err, refl, sym, ap, ◌∙◌, arith, length-append}
use Rattle.std.proofs.lemmas.List.{drop_more, length-take}
use Rattle.neli_wire.specs.declared.errors.SerError.{SerError}
use Rattle.neli_wire.specs.declared.errors.SerError.TheVariants.{Msg, Io, Utf8, Memory}
use Rattle.neli_wire.specs.laws.Writing.{append_wire-err, refused_part_first}
use Rattle.neli_wire.specs.Writing.{Wire, ◌+++◌, append_wire, RefusesWrite, TakesRoom, wire_all}

-- what is left takes no more memory than all
room_rest : (old mid : List ℕ) (w all : Wire) → length old ≤ length mid → append_wire mid w ≡ append_wire old all
    → TakesRoom w → TakesRoom all
room_rest old mid (Ok x) (Ok y) le s h =
    let same : mid ++ x ≡ old ++ y = cc in
    omega (arith, ap length same, length-append mid x, length-append old y)
room_rest old mid (Ok x) (Err d) le s h = tt
room_rest old mid (Err c) (Err d) le s h = tt
room_rest old mid (Err d) (Ok y) le s h = absurd cc

-- where what is left stands for all, so does its refusal
pub refused_rest : (old mid : List ℕ) (w all : Wire) (e : SerError) → length old ≤ length mid
    → append_wire mid w ≡ append_wire old all → RefusesWrite w e → RefusesWrite all e
refused_rest old mid w all (Msg m) le s h = append_wire-err old all (Msg m) (sym s ∙ ap (append_wire mid) h)
refused_rest old mid w all (Io k) le s h = append_wire-err old all (Io k) (sym s ∙ ap (append_wire mid) h)
refused_rest old mid w all (Utf8 u) le s h = append_wire-err old all (Utf8 u) (sym s ∙ ap (append_wire mid) h)
refused_rest old mid w all Memory le s h = room_rest old mid w all le s h

-- the first i values stand after old; writing the others gives what writing all gives
pub record Writes {A : Type 0} (wire : A → Wire) (old : List ℕ) (xs : List A) (i : ℕ) (now : List ℕ) : Type 0 where
  pub others : append_wire now (wire_all wire (drop i xs)) ≡ append_wire old (wire_all wire xs)
  pub front : take (length old) now ≡ old

module _ {A : Type 0} (wire : A → Wire) (old : List ℕ) (xs : List A) (i : ℕ) (now : List ℕ)
    (so_far : Writes wire old xs i now) where
  pub Writes-refused : (x : A) (e : SerError) → i < length xs → x ≡ get_or xs i x → RefusesWrite (wire x) e
      → RefusesWrite (wire_all wire xs) e
  Writes-refused x e lt is h =
      let same : wire x +++ wire_all wire (drop (i + 1) xs) ≡ wire_all wire (drop i xs) =
      ap (wire_all wire) (sym (rw (← is) at (drop_more xs i x lt))) in
      refused_rest old now (wire x +++ wire_all wire (drop (i + 1) xs)) (wire_all wire xs) e
      (omega (arith, length-take (length old) now, ap length so_far.front)) (ap (append_wire now) same
      ∙ so_far.others) (refused_part_first (wire x) (wire_all wire (drop (i + 1) xs)) e h)

-- writing values whose size is a byte or more takes memory
pub takes-room : (w : Wire) (n : ℕ) → 0 < n → ((bytes : List ℕ) → w ≡ Ok bytes → length bytes ≡ n) → TakesRoom w
takes-room (Ok bytes) n some sized = omega (arith, some, sized bytes refl)
takes-room (Err e) n some sized = tt
