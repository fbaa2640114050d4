use Rattle.neli_log.proofs.log.LogDeliveries.clear.Goals as goal

pub returns-clause-others : goal.returns-clause-others
returns-clause-others c = rw (← c.self.view_is) c.clear.ensures.others
