use Rattle.neli_kernel.proofs.ExtAcks.{nothing-read_back, plain-read_back}
use Rattle.neli_kernel.proofs.laws.attributes_are_read_back.Goals as goal

pub returns-clause-nothing : goal.returns-clause-nothing
returns-clause-nothing c = nothing-read_back

pub returns-clause-plain : goal.returns-clause-plain
returns-clause-plain c = plain-read_back
