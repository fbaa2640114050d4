use Rattle.neli_kernel.proofs.Delivered.{dump-asker, dump-cut, dump-others, untyped-end, untyped-plain}
use Rattle.neli_kernel.proofs.laws.dump_is_delivered.Goals as goal

pub returns-clause-asker : goal.returns-clause-asker
returns-clause-asker c = dump-asker

pub returns-clause-others : goal.returns-clause-others
returns-clause-others c = dump-others

pub returns-clause-cut : goal.returns-clause-cut
returns-clause-cut c = dump-cut

pub returns-clause-plain : goal.returns-clause-plain
returns-clause-plain c = untyped-plain

pub returns-clause-end : goal.returns-clause-end
returns-clause-end c = untyped-end
