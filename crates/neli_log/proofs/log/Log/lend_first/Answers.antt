use Rattle.neli_log.proofs.log.Log.lend_first.Goals as goal

pub returns : goal.returns
returns c = rw (← c.self.view_is) c.lend_first.ensures
