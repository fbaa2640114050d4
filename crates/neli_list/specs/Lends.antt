-- How a list ends that lends its values to be changed.
use Rattle.std.specs.Prelude.{List, ◌++◌, length, take, drop}
use Rattle.std.specs.Borrow.{Lends, follows, Fml, RattleType, MutBor, Array}
use Rattle.std.specs.declared.slice.IterMut.{IterMut}
use Rattle.std.specs.Slice.Iter.{iter_mut_name}
use Rattle.neli_list.specs.contracts.frame_list.FrameList.{the_row}

-- the values, overwritten with others from the first on
abbrev pub overwrite : {A : Type 0} → List A → List A → List A
overwrite old new = take (length old) (new ++ drop (length new) old)

module _ (I : RattleType) (list : MutBor (List I.Denot)) where
  -- the list ends with the values that the slice shows last
  abbrev pub LendsList : MutBor (List I.Denot) → Fml
  LendsList items = Lends (the_row I) (Array I 0) list items (overwrite list.now)

  -- the same for values lent to an `iter_mut`
  abbrev pub LendsIter : IterMut I.Denot → Fml
  LendsIter items = follows (the_row I) (Array I 0) list.ghost_name (iter_mut_name items) (overwrite list.now)
