use Rattle.std.proofs.Common.{◌≡◌, map, take}
use Rattle.neli_tables_walk.specs.declared.level.Level.{Level}
use Rattle.neli_tables_walk.proofs.levels.path_to.Given as goal

abbrev pub invariant-loop-level : goal.invariant-loop-level
invariant-loop-level l = l.steps.items ≡ map (λ (x : Level). x.inside) (take l.level-index l.levels)
