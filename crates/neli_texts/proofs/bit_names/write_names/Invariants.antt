use Rattle.std.proofs.Common.{◌≡◌, ℕ, List, ◌++◌, drop, map}
use Rattle.std.specs.Fmt.{HasWritten, IsPlainFormatter}
use Rattle.neli_texts.specs.FlagNames.{barred, names_in}
use Rattle.neli_texts.proofs.Names.{from_here}
use Rattle.neli_texts.proofs.bit_names.write_names.Given as goal

-- the output so far, and then the text of the flags from here on, is the whole text
abbrev pub invariant-loop-row : goal.invariant-loop-row
invariant-loop-row g l =
    IsPlainFormatter l.initial.f → (done : List ℕ) × HasWritten g.W.Write.write_str_gives l.initial.f done l.f
    × (done ++ from_here l.is_first (names_in (map g.R.NamedBits.row_of (drop l.row-index l.fn.rows)) l.fn.set l.left)
    ≡ barred (names_in (map g.R.NamedBits.row_of l.fn.rows) l.fn.set l.fn.set))
