use Rattle.std.proofs.Common.{refl}
use Rattle.neli_show.specs.Parts.{part_by}
use Rattle.neli_show.proofs.Shown.{printed_part}
use Rattle.neli_show.proofs.part.PartsDisplay.fmt.Goals as goal

pub loop-item-preserved : goal.loop-item-preserved
loop-item-preserved g c =
    let me = c.args.self.now in
    printed_part g.W.Write.write_str_gives _ _ _
    (part_by me.output me.tables.now me.protocol me.input.now.bytes.items)
    c.deref-item-items.result.now c.loop-item.item-index _ c.loop-item-test.true
    c.loop-item.invariant
    (λ plain. rw c.deref.ensures.value at c.in_ok-fmt.ensures.writes plain refl)
