use Rattle.std.proofs.Common.{◌≡◌, ℕ, List, ◌++◌}
use Rattle.std.specs.Fmt.{HasWritten, IsPlainFormatter}
use Rattle.std.specs.Str.{IsUtf8}
use Rattle.std.specs.Str.Iter.{chars_rest}
use Rattle.neli_tables_walk.specs.Quoted.{escaped}
use Rattle.neli_tables_walk.proofs.quoted.EscapedCharsDisplay.fmt.Given as goal

-- the rest is text, and the output so far with the output of the rest is that of all
abbrev pub invariant-loop-c : goal.invariant-loop-c
invariant-loop-c g l =
    IsUtf8 (chars_rest l.c-iterator) × (IsPlainFormatter l.initial.f
    → (done : List ℕ) × HasWritten g.W.Write.write_str_gives l.initial.f done l.f
    × (done ++ escaped (chars_rest l.c-iterator) ≡ escaped l.fn.self.0.now))
