use Rattle.neli_log.specs.laws.Lending.{first_lent, none_lent}
use Rattle.neli_log.proofs.log.LogDeliveries.first_heading.Goals as goal

pub returns-in-None : goal.returns-in-None
returns-in-None c = none_lent _ (rw c.in-None.is at c.lend_first.ensures)

pub returns-in-Some : goal.returns-in-Some
returns-in-Some c = rw c.heading.ensures
    (first_lent _ c.in-Some.delivery (rw c.in-Some.is at c.lend_first.ensures))
