use Rattle.neli_kernel.proofs.Datagrams.{begun-within, nothing-within, put_wire-within}
use Rattle.neli_kernel.proofs.laws.datagrams_keep_the_limit.Goals as goal

pub returns-clause-nothing : goal.returns-clause-nothing
returns-clause-nothing c = nothing-within

pub returns-clause-put : goal.returns-clause-put
returns-clause-put c = put_wire-within

pub returns-clause-begun : goal.returns-clause-begun
returns-clause-begun c = begun-within
