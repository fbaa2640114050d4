use Rattle.std.proofs.Common.{◌∷◌, [], true, false, refl}
use Rattle.std.proofs.lemmas.List.Elements.{All-cons}
use Rattle.neli_kernel.specs.Answers.{acknowledgement}
use Rattle.neli_kernel.specs.Delivered.{IsFor, answer_kept, reply_kept}
use Rattle.neli_kernel_laws.proofs.Complete.{acknowledged_complete, reply_complete}
use Rattle.neli_kernel_laws.proofs.Exchanges.{datagram-in-turn, datagrams-in-turn, one-for}
use Rattle.neli_kernel_laws.proofs.replied_request_is_answered.Goals as goal

pub returns-clause-alone : goal.returns-clause-alone
returns-clause-alone g c = λ x asked t flags body text bytes needs single is.
    datagram-in-turn g.RT.Constant.wire_value g.RT.Constant.wire_number g.RP.FromBytesWithInput.view
    g.RP.Size.wire_length g.RP.FromBytesWithInput.read g.met.RT.Constant.back_to_number
    x asked bytes _ false needs (c.reply_is_delivered.ensures.one_message t flags asked.header.sequence_number
    asked.port body text bytes is)
    (one-for asked.header.sequence_number asked.port (reply_kept
    (g.T.Constant.wire_number t) flags asked.header.sequence_number asked.port text) (refl, refl))
    (reply_complete (g.T.Constant.wire_number t) asked.header.sequence_number asked.port flags text is.type_fits single)

pub returns-clause-acknowledged : goal.returns-clause-acknowledged
returns-clause-acknowledged g c =
    λ x asked t flags body text bytes attrs attrs_text ack_bytes needs single is back answers.
    let number = asked.header.sequence_number in
    let own = reply_kept (g.T.Constant.wire_number t) flags number asked.port text in
    let last = answer_kept (acknowledgement asked attrs) in
    datagrams-in-turn g.RT.Constant.wire_value g.RT.Constant.wire_number g.RP.FromBytesWithInput.view
    g.RP.Size.wire_length g.RP.FromBytesWithInput.read g.met.RT.Constant.back_to_number
    x asked bytes ack_bytes (own ∷ []) (last ∷ []) true needs
    (c.reply_is_delivered.ensures.one_message t flags number asked.port body text bytes is)
    (c.acknowledgement_is_delivered.ensures.one_message asked attrs attrs_text ack_bytes back answers)
    (All-cons (IsFor number asked.port) own (last ∷ []) (refl, refl) (one-for number asked.port last (refl, refl)))
    (acknowledged_complete (g.T.Constant.wire_number t) number asked.port flags text asked attrs is.type_fits single)
