use Rattle.neli_tables_walk.specs.Shapes.{context_view}
use Rattle.neli_print.specs.ItemsJson.{items_json}
use Rattle.neli_print.specs.Lists.{list_items_json}
use Rattle.neli_print.proofs.Loops.{IsPrinted}
use Rattle.neli_print.proofs.list.ListItemsDisplay.fmt.Given as goal

-- the output so far, and the items that are left, are all of it
abbrev pub invariant-loop-visit : goal.invariant-loop-visit
invariant-loop-visit g l =
    let me = l.fn.self.0 in
    IsPrinted g.W.Write.write_str_gives l.initial.f l.f
    (items_json me.context.table.now l.open l.visit-iterator)
    (list_items_json (context_view me.context) me.nest me.bytes.now)
