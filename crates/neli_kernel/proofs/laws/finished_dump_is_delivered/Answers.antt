use Rattle.neli_kernel.proofs.Finished.{finished-asker, finished-kept, finished-others, finished-read}
use Rattle.neli_kernel.proofs.laws.finished_dump_is_delivered.Goals as goal

pub returns-clause-read : goal.returns-clause-read
returns-clause-read c = λ limit asked flags code attrs text p said datagrams fits back read is.
    finished-read asked flags code attrs text fits back limit p said datagrams read is

pub returns-clause-kept : goal.returns-clause-kept
returns-clause-kept c = finished-kept

pub returns-clause-asker : goal.returns-clause-asker
returns-clause-asker c = finished-asker

pub returns-clause-others : goal.returns-clause-others
returns-clause-others c =
    λ limit asked flags code attrs text p said ms datagrams is_open other differs fits back read are all opened is.
    finished-others limit asked flags code attrs text p said ms datagrams is_open fits back read are all opened is other
    differs
