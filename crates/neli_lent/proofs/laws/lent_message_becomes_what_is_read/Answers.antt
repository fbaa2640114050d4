use Rattle.neli_lent.specs.laws.Messages.{owned-read, owned-refused}
use Rattle.neli_lent.proofs.laws.lent_message_becomes_what_is_read.Goals as goal

pub returns-clause-read : goal.returns-clause-read
returns-clause-read g c = owned-read g.T.Constant.wire_value g.T.Constant.wire_number g.P.FromBytesWithInput.read

pub returns-clause-refused : goal.returns-clause-refused
returns-clause-refused g c = owned-refused g.T.Constant.wire_value g.T.Constant.wire_number g.P.FromBytesWithInput.read
