use Rattle.std.proofs.Common.{arith}
use Rattle.neli_wire.specs.laws.FrameLists.{list-frames, frames-list, frames-refusal}
use Rattle.neli_attr.specs.Attributes.{attribute}
use Rattle.neli_attr.specs.laws.Attributes.{attribute-placed}
use Rattle.neli_attr.proofs.laws.list_is_its_frames.Goals as goal

pub returns-clause-read : goal.returns-clause-read
returns-clause-read g c = list-frames (attribute g.K.Constant.wire_value g.P.FromBytesWithInput.read)
    (attribute-placed g.K.Constant.wire_value g.P.FromBytesWithInput.read) (omega arith)

pub returns-clause-spelled : goal.returns-clause-spelled
returns-clause-spelled g c = frames-list (attribute g.K.Constant.wire_value g.P.FromBytesWithInput.read)
    (attribute-placed g.K.Constant.wire_value g.P.FromBytesWithInput.read) (omega arith)

pub returns-clause-refused : goal.returns-clause-refused
returns-clause-refused g c = frames-refusal (attribute g.K.Constant.wire_value g.P.FromBytesWithInput.read)
    (attribute-placed g.K.Constant.wire_value g.P.FromBytesWithInput.read) (omega arith)
