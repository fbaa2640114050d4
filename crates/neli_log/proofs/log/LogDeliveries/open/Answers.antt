use Rattle.neli_log.proofs.log.LogDeliveries.open.Goals as goal

pub returns-clause-opened : goal.returns-clause-opened
returns-clause-opened c = rw (← c.self.view_is) c.open.ensures.opened

pub returns-clause-unchanged : goal.returns-clause-unchanged
returns-clause-unchanged c = rw (← c.self.view_is) c.open.ensures.unchanged
