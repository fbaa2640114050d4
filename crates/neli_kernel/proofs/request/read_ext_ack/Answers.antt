use Rattle.neli_msg.proofs.Attributes.{attributes_value, attributes_refused}
use Rattle.neli_kernel.proofs.request.read_ext_ack.Goals as goal

pub returns-clause-value : goal.returns-clause-value
returns-clause-value c = attributes_value c.read_whole.result c.args.bytes.now c.read_whole.ensures.value

pub returns-clause-refused : goal.returns-clause-refused
returns-clause-refused c = attributes_refused c.read_whole.result c.args.bytes.now _ c.read_whole.ensures.refused
