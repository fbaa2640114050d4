use Rattle.std.proofs.Common.{◌≡◌, ◌+◌, ◌++◌, drop, sum_by}
use Rattle.neli_inputs.specs.Lines.{count_in}
use Rattle.neli_inputs.specs.Text.{items_from, items_in}
use Rattle.neli_inputs.proofs.text.items_of.Given as goal

-- the items of the lines so far stand before those of the lines to come
abbrev pub invariant-loop-index : goal.invariant-loop-index
invariant-loop-index l = record {
  items : items_in l.lines ≡ l.items.items ++ items_from l.dumps (l.index + 1) l.place l.begun (drop l.index l.lines);
  placed : l.place + sum_by count_in (drop l.index l.lines) ≡ sum_by count_in l.lines;
}
