use Rattle.std.proofs.Common.{◌≡◌, ◌+◌, ◌++◌, drop, map}
use Rattle.neli_tables.specs.Text.{worded_from, worded_view}
use Rattle.neli_tables.proofs.text.worded_lines.Given as goal

-- the lines so far stand before those to come
abbrev pub invariant-loop-index : goal.invariant-loop-index
invariant-loop-index l =
    let lines = map (λ line. line.now) l.line-items in
    worded_from 1 lines ≡ map worded_view l.worded.items ++ worded_from (l.index + 1) (drop l.index lines)
