use Rattle.std.proofs.Common.{◌≡◌, ◌++◌, [], ℕ, None, map, take}
use Rattle.neli_tables.specs.Families.{learnt, tables_in}
use Rattle.neli_tables_routing.specs.Tables as routing
use Rattle.neli_tables_generic.specs.Tables as generic
use Rattle.neli_tables_system.specs.Tables as system
use Rattle.neli_tables_walk.specs.Built.{AreRead}
use Rattle.neli_tables_walk.proofs.built.built_in.Given as goal

abbrev pub invariant-loop-table : goal.invariant-loop-table
invariant-loop-table l = record {
  read : AreRead ([] ++ map routing.heading_of (take l.table-index l.table-items))
      (tables_in l.tables);
  learnt : (id : ℕ) → learnt l.tables id ≡ None;
}

abbrev pub invariant-loop-table-2 : goal.invariant-loop-table-2
invariant-loop-table-2 l = record {
  read : AreRead (map routing.heading_of routing.all
      ++ map generic.heading_of (take l.table-index l.table-items))
      (tables_in l.tables);
  learnt : (id : ℕ) → learnt l.tables id ≡ None;
}

abbrev pub invariant-loop-table-3 : goal.invariant-loop-table-3
invariant-loop-table-3 l = record {
  read : AreRead ((map routing.heading_of routing.all ++ map generic.heading_of generic.all)
      ++ map system.heading_of (take l.table-index l.table-items)) (tables_in l.tables);
  learnt : (id : ℕ) → learnt l.tables id ≡ None;
}
