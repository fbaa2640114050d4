use Rattle.std.proofs.Common.{◌≡◌, ◌+◌, ◌<◌, ◌^◌, length, drop, arith}
use Rattle.neli_log.specs.Contents.{spans_of}
use Rattle.neli_log.proofs.Entries.{spans_at, spans_few}
use Rattle.neli_log.proofs.handing.span_count.Goals as goal

pub overflow_add-count : goal.overflow_add-count
overflow_add-count c =
    let es = c.args.entries.now in
    let counted : c.loop-entry.count + length (spans_of (drop c.loop-entry.entry-index es)) ≡ length (spans_of es) =
    c.loop-entry.invariant.counted in
    let small : length es < 2 ^ 64 = c.loop-entry.invariant.small in
    let here = spans_at es c.loop-entry.entry-index c.entry-item.result c.loop-entry-test.true c.entry-item.is in
    let few = spans_few es in
    omega (arith, counted, small, here, few, c.spans_in-count.ensures)
