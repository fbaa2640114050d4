use Rattle.std.proofs.Common.{refl, ap, length, ◌∙◌}
use Rattle.neli_reader.specs.Kinds.{payload_in, payload_takes_memory}
use Rattle.neli_lent.proofs.Owned.{whole-refused, whole-value}
use Rattle.neli_lent.proofs.message.LentMessage.to_nlmsghdr.Goals as goal

pub returns-clause-value : goal.returns-clause-value
returns-clause-value g c =
    let bytes = c.args.self.now.payload.now in
    let read = payload_in g.T.Constant.wire_value g.P.FromBytesWithInput.read c.to_number-number.result
    c.nl_flags-flags.result.now in
    let value = whole-value read (length bytes) c.new-cursor.result.rest bytes _ _ c.new-cursor.ensures.rest refl
    c.in_ok-payload.ensures.value in
    let number = c.to_number-number.ensures ∙ ap g.T.Constant.wire_number c.nl_type.ensures in
    let stated = rw (number, c.nl_flags-flags.ensures) at value in
    rw (stated, c.from_header.ensures.header, c.from_header.ensures.payload) refl

pub returns-in_err-payload-clause-refused : goal.returns-in_err-payload-clause-refused
returns-in_err-payload-clause-refused g c =
    let bytes = c.args.self.now.payload.now in
    let number = c.to_number-number.ensures ∙ ap g.T.Constant.wire_number c.nl_type.ensures in
    let read = payload_in g.T.Constant.wire_value g.P.FromBytesWithInput.read c.to_number-number.result
    c.nl_flags-flags.result.now in
    let takes = payload_takes_memory g.P.FromBytesWithInput.read g.P.FromBytesWithInput.takes_memory
    c.to_number-number.result c.nl_flags-flags.result.now in
    let refused = whole-refused read takes (length bytes) c.new-cursor.result.rest bytes c.args.self.now.header
    c.from_residual.result c.in_err-payload.field-0.0 c.new-cursor.ensures.rest refl c.from_residual.ensures.1
    c.in_err-payload.ensures.refused in
    rw (number, c.nl_flags-flags.ensures) at refused
