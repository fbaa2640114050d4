use Rattle.std.proofs.Common.{◌≡◌, ◌≤◌, ℕ, List, drop, length, map}
use Rattle.neli_tables.specs.declared.word.Word.{Word}
use Rattle.neli_tables.specs.Names.{finds, place_in}
use Rattle.neli_tables.specs.Text.{worded_view}
use Rattle.neli_tables.proofs.names.Names.of.Given as goal

-- the lines from this one on are noted
abbrev pub invariant-loop-index : goal.invariant-loop-index
invariant-loop-index l = record {
  within : l.index ≤ length l.lines;
  noted : (w : Word) (name : List ℕ) → finds l.names w name ≡ place_in w name l.index (drop l.index (map worded_view l.lines));
}

abbrev pub decreases-loop-index : goal.decreases-loop-index
decreases-loop-index l = l.index
