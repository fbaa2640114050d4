use Rattle.std.proofs.Common.{◌≡◌, length, take}
use Rattle.example_links.proofs.read_links.Given as goal

-- the lines before stay
abbrev pub invariant-loop-item : goal.invariant-loop-item
invariant-loop-item l = take (length l.fn.lines.items) l.lines.items ≡ l.fn.lines.items
