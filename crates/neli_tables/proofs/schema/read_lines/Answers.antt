use Rattle.std.proofs.lemmas.List.{map-append}
use Rattle.neli_tables.specs.Names.{finds}
use Rattle.neli_tables.proofs.Reading.{pass_read, pass_unread}
use Rattle.neli_tables.proofs.schema.read_lines.Goals as goal

pub returns-in-Err-clause-refused : goal.returns-in-Err-clause-refused
returns-in-Err-clause-refused c =
    rw c.error_at.ensures (pass_unread (finds c.args.names.now) _ _ _ c.args.worded.now c.loop-line.line-index
    c.line-item.result c.deref.result.now c.in-Err.unread c.loop-line.invariant c.loop-line-test.true c.line-item.is
    c.deref.ensures.value c.in-Err.ensures)

pub loop-line-preserved : goal.loop-line-preserved
loop-line-preserved c =
    rw (c.in_ok-push-in-Ok.ensures.items, map-append, c.section_after-section.ensures)
    (pass_read (finds c.args.names.now) _ _ _ c.args.worded.now c.loop-line.line-index c.line-item.result _
    c.loop-line.invariant c.loop-line-test.true c.line-item.is (rw c.deref.ensures.value at c.in-Ok.ensures))
