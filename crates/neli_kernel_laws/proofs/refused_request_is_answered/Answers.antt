use Rattle.std.proofs.Common.{refl}
use Rattle.neli_kernel.specs.Answers.{capped_error, error}
use Rattle.neli_kernel.specs.Delivered.{answer_kept}
use Rattle.neli_runs.specs.Rule.{needs_ack}
use Rattle.neli_kernel_laws.proofs.Complete.{capped_complete, error_complete}
use Rattle.neli_kernel_laws.proofs.Exchanges.{datagram-in-turn, one-for}
use Rattle.neli_kernel_laws.proofs.refused_request_is_answered.Goals as goal

pub returns-clause-capped : goal.returns-clause-capped
returns-clause-capped g c = λ x asked code attrs text bytes not fits back is.
    datagram-in-turn g.RT.Constant.wire_value g.RT.Constant.wire_number g.RP.FromBytesWithInput.view
    g.RP.Size.wire_length g.RP.FromBytesWithInput.read g.met.RT.Constant.back_to_number
    x asked bytes _ (needs_ack x.flags) refl (c.error_is_delivered.ensures.capped asked code attrs text bytes not fits
    back is).one_message
    (one-for asked.header.sequence_number asked.port (answer_kept (capped_error asked code attrs)) (refl, refl))
    (capped_complete (needs_ack x.flags) asked code attrs)

pub returns-clause-whole : goal.returns-clause-whole
returns-clause-whole g c = λ x asked code attrs text bytes not fits states back is.
    datagram-in-turn g.RT.Constant.wire_value g.RT.Constant.wire_number g.RP.FromBytesWithInput.view
    g.RP.Size.wire_length g.RP.FromBytesWithInput.read g.met.RT.Constant.back_to_number
    x asked bytes _ (needs_ack x.flags) refl (c.error_is_delivered.ensures.whole asked code attrs text bytes not fits
    states back is).one_message
    (one-for asked.header.sequence_number asked.port (answer_kept (error asked code attrs)) (refl, refl))
    (error_complete (needs_ack x.flags) asked code attrs)
