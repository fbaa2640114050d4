use Rattle.neli_log.proofs.log.LogDeliveries.fault.Goals as goal

pub returns-clause-unchanged : goal.returns-clause-unchanged
returns-clause-unchanged c = rw (← c.self.view_is) c.fault.ensures.unchanged

pub returns-clause-ok : goal.returns-clause-ok
returns-clause-ok c = rw (← c.self.view_is) c.fault.ensures.ok
