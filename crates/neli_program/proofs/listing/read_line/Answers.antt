use Rattle.neli_program.proofs.Listings.{lent_begins, lent_refused}
use Rattle.neli_program.proofs.listing.read_line.Goals as goal

pub returns-in_err-line-clause-refused : goal.returns-in_err-line-clause-refused
returns-in_err-line-clause-refused c =
    lent_refused c.from_residual.result c.args.cursor.now.rest _ _ c.in_err-line.field-0.0 c.from_residual.ensures.1
    (rw c.ahead-ahead.ensures at c.in-Ok.ensures.value) c.in_err-line.ensures.refused

pub returns-clause-value : goal.returns-clause-value
returns-clause-value c =
    lent_begins c.args.cursor.now.rest _ _ c.in_ok-line.line
    (rw c.ahead-ahead.ensures at c.in-Ok.ensures.value) c.in_ok-line.ensures.value
