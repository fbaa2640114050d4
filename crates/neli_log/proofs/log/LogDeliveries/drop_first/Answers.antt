use Rattle.neli_log.proofs.log.LogDeliveries.drop_first.Goals as goal

pub returns-clause-taken : goal.returns-clause-taken
returns-clause-taken c = rw (← c.self.view_is) c.drop_first.ensures.taken

pub returns-clause-others : goal.returns-clause-others
returns-clause-others c = rw (← c.self.view_is) c.drop_first.ensures.others
