use Rattle.std.proofs.Common.{[], ◌++◌, map, sym, subst, ◌∙◌}
use Rattle.neli_tables.specs.Families.{tables_in}
use Rattle.neli_tables_routing.specs.Tables as routing
use Rattle.neli_tables_generic.specs.Tables as generic
use Rattle.neli_tables_system.specs.Tables as system
use Rattle.neli_tables_walk.specs.Built.{AreRead}
use Rattle.neli_tables_walk.specs.Built.AreRead.{none}
use Rattle.neli_tables_walk.proofs.BodyTexts.{read-more}
use Rattle.neli_tables_walk.proofs.built.built_in.Goals as goal

pub loop-table-init : goal.loop-table-init
loop-table-init c = record {
  read = subst (AreRead []) (sym c.new-tables.ensures.tables) none;
  learnt = c.new-tables.ensures.learnt;
}

pub loop-table-preserved : goal.loop-table-preserved
loop-table-preserved c = record {
  read = read-more routing.heading_of [] c.all-table-items.result.now c.loop-table.table-index _
      c.text.result.now (tables_in c.loop-table.tables)
      (tables_in c.add_text.new.tables) c.loop-table-test.true
      c.loop-table.invariant.read c.text.ensures c.in_ok-add_text.ensures.added;
  learnt = λ id. c.in_ok-add_text.ensures.learnt id ∙ c.loop-table.invariant.learnt id;
}

pub loop-table-2-preserved : goal.loop-table-2-preserved
loop-table-2-preserved c = record {
  read = read-more generic.heading_of
      (map routing.heading_of routing.all) c.all-table-items-2.result.now
      c.loop-table-2.table-index _ c.text-in-loop-table-2.result.now
      (tables_in c.loop-table-2.tables)
      (tables_in c.add_text-in-loop-table-2.new.tables) c.loop-table-2-test.true
      c.loop-table-2.invariant.read c.text-in-loop-table-2.ensures c.in_ok-add_text-2.ensures.added;
  learnt = λ id. c.in_ok-add_text-2.ensures.learnt id ∙ c.loop-table-2.invariant.learnt id;
}

pub loop-table-3-preserved : goal.loop-table-3-preserved
loop-table-3-preserved c = record {
  read = read-more system.heading_of (map routing.heading_of routing.all
      ++ map generic.heading_of generic.all)
      c.all-table-items-3.result.now c.loop-table-3.table-index _ c.text-in-loop-table-3.result.now
      (tables_in c.loop-table-3.tables) (tables_in c.add_text-in-loop-table-3.new.tables)
      c.loop-table-3-test.true c.loop-table-3.invariant.read c.text-in-loop-table-3.ensures
      c.in_ok-add_text-3.ensures.added;
  learnt = λ id. c.in_ok-add_text-3.ensures.learnt id ∙ c.loop-table-3.invariant.learnt id;
}
