use Rattle.std.proofs.Common.{true, refl}
use Rattle.neli_kernel.specs.Answers.{acknowledgement}
use Rattle.neli_kernel.specs.Delivered.{answer_kept}
use Rattle.neli_kernel_laws.proofs.Complete.{acknowledgement_complete}
use Rattle.neli_kernel_laws.proofs.Exchanges.{datagram-in-turn, one-for}
use Rattle.neli_kernel_laws.proofs.acknowledged_request_is_answered.Goals as goal

pub returns : goal.returns
returns g c = λ x asked attrs text bytes needs back is.
    datagram-in-turn g.RT.Constant.wire_value g.RT.Constant.wire_number g.RP.FromBytesWithInput.view
    g.RP.Size.wire_length g.RP.FromBytesWithInput.read g.met.RT.Constant.back_to_number
    x asked bytes _ true needs (c.acknowledgement_is_delivered.ensures.one_message asked attrs text bytes back is)
    (one-for asked.header.sequence_number asked.port (answer_kept (acknowledgement asked attrs)) (refl, refl))
    (acknowledgement_complete asked attrs)
