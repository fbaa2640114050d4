use Rattle.std.proofs.Common.{◌≡◌, ◌≤◌, [], find, length, take}
use Rattle.neli_tables_walk.specs.Shapes.{has_row, onto}
use Rattle.neli_tables_walk.proofs.context.Context.listed_around.Given as goal

-- none of the lists passed is the one
abbrev pub invariant-loop-left : goal.invariant-loop-left
invariant-loop-left l = record {
  within : l.left ≤ length l.around;
  passed : find (has_row l.self.table.now l.by l.number) (onto l.around [])
      ≡ find (has_row l.self.table.now l.by l.number) (onto (take l.left l.around) []);
}

abbrev pub decreases-loop-left : goal.decreases-loop-left
decreases-loop-left l = l.left
