use Rattle.std.proofs.Common.{◌≤◌, length}
use Rattle.std.specs.Io.KnownBytes.{Consumes}
use Rattle.neli_program.proofs.input.read_whole.Given as goal

-- the bytes are those that the input lost, one or more a call
abbrev pub invariant-loop-turn : goal.invariant-loop-turn
invariant-loop-turn g l =
    Consumes (g.R.Read.remaining l.fn.input) (g.R.Read.remaining l.input) l.bytes.items
    × (l._turn ≤ length l.bytes.items)
