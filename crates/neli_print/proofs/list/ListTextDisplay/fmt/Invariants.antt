use Rattle.neli_tables_walk.specs.Shapes.{context_view}
use Rattle.neli_print.specs.ItemsText.{items_text}
use Rattle.neli_print.specs.Lists.{list_text}
use Rattle.neli_print.proofs.Loops.{IsPrinted}
use Rattle.neli_print.proofs.list.ListTextDisplay.fmt.Given as goal

-- the output so far, and the items that are left, are all of it
abbrev pub invariant-loop-visit : goal.invariant-loop-visit
invariant-loop-visit g l =
    let me = l.fn.self in
    let list = me.list in
    IsPrinted g.W.Write.write_str_gives l.initial.f l.f
    (items_text me.is_coloured list.context.table.now me.level l.visit-iterator)
    (list_text me.is_coloured me.level (context_view list.context) list.nest list.bytes.now)
