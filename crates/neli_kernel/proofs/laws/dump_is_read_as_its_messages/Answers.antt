use Rattle.neli_kernel.proofs.Datagrams.{begun-read, nothing-read, put_wire-read}
use Rattle.neli_kernel.proofs.laws.dump_is_read_as_its_messages.Goals as goal

pub returns-clause-nothing : goal.returns-clause-nothing
returns-clause-nothing c = nothing-read

pub returns-clause-put : goal.returns-clause-put
returns-clause-put c = put_wire-read

pub returns-clause-begun : goal.returns-clause-begun
returns-clause-begun c = begun-read
