use Rattle.neli_log.proofs.log.Log.kept.Goals as goal

pub returns-clause-none : goal.returns-clause-none
returns-clause-none c = rw (← c.self.view_is) c.kept.ensures.none
