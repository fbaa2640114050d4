-- Widths of numbers.
use Rattle.std.proofs.Common.{◌≡◌, ℕ, ◌∙◌, Bool, true, false, cond, Some, None, Option, refl, ap, sym}
use Rattle.std.specs.Prelude.{nat_lt}
use Rattle.neli_tables.specs.declared.kind.Kind.{Kind}
use Rattle.neli_tables.specs.declared.kind.Kind.TheVariants as kind
use Rattle.neli_tables_walk.specs.declared.number.Width.{Width}
use Rattle.neli_tables_walk.specs.Numbers.{four_or_eight, signed, unsigned, width_of}

abbrev size_in : Option Width → ℕ
size_in None = 0
size_in (Some w) = w.size

-- a width that a kind has at a length, it has at its own
pub width-at-own : (l : ℕ) (k : Kind) → width_of (size_in (width_of l k)) k ≡ width_of l k
width-at-own l kind.U8 = refl
width-at-own l kind.U16 = refl
width-at-own l kind.U32 = refl
width-at-own l kind.U64 = refl
width-at-own l kind.S8 = refl
width-at-own l kind.S16 = refl
width-at-own l kind.S32 = refl
width-at-own l kind.S64 = refl
width-at-own l kind.Be16 = refl
width-at-own l kind.Be32 = refl
width-at-own l kind.Be64 = refl
width-at-own l kind.Sbe32 = refl
width-at-own l kind.Uint = by (nat_lt l 8)
  where
    by : (b : Bool) → unsigned (four_or_eight (cond b 4 8)) ≡ unsigned (cond b 4 8)
    by true = refl
    by false = refl
width-at-own l kind.Sint = by (nat_lt l 8)
  where
    by : (b : Bool) → signed (four_or_eight (cond b 4 8)) ≡ signed (cond b 4 8)
    by true = refl
    by false = refl
width-at-own l k = refl

pub width_own : (l : ℕ) (k : Kind) (w : Width) → width_of l k ≡ Some w → width_of w.size k ≡ Some w
width_own l k w e =
    ap (λ (o : Option Width). width_of (size_in o) k) (sym e) ∙ width-at-own l k ∙ e
