use Rattle.neli_msg.specs.laws.Retyping.{message-typed, message-fails, typed_message-ok}
use Rattle.neli_reader.proofs.laws.typed_reading_agrees.Goals as goal

pub returns-clause-typed : goal.returns-clause-typed
returns-clause-typed g c s r m bytes e =
    message-typed g.T.Constant.wire_value g.P.FromBytesWithInput.read g.T.Constant.wire_number
    g.met.T.Constant.back_to_number s r m bytes e

pub returns-clause-refused : goal.returns-clause-refused
returns-clause-refused g c s e bytes is =
    message-fails g.T.Constant.wire_value g.P.FromBytesWithInput.read g.T.Constant.wire_number
    g.met.T.Constant.back_to_number s bytes e is

pub returns-clause-exactly : goal.returns-clause-exactly
returns-clause-exactly g c m = typed_message-ok g.T.Constant.wire_value g.P.FromBytesWithInput.read m
