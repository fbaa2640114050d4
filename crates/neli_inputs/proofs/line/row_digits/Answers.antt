use Rattle.std.proofs.Common.{◌∙◌, sym}
use Rattle.neli_inputs.proofs.Rows.{row-more}
use Rattle.neli_inputs.proofs.line.row_digits.Goals as goal

pub loop-index-preserved : goal.loop-index-preserved
loop-index-preserved c =
    rw c.in_ok-extend_from_slice.ensures.items
    (c.loop-index.invariant
    ∙ row-more c.loop-index.index c.loop-index.digits.items c.args.words.now _ c.loop-index-test.true
    (sym c.ends_row.ensures ∙ c.if-ends_row.false) (sym c.is_of_row.ensures ∙ c.if-not-is_of_row.false))
