use Rattle.std.proofs.Common.{rules, ◌≡◌, ◌<◌, ◌+◌, inl, inr, sym, ◌∙◌}
use Rattle.std.specs.Prelude.{codes}
use Rattle.neli_wire.specs.Sizes.{align}
use Rattle.neli_msg.specs.Wires.{payload_size}
use Rattle.neli_msg.proofs.Retyped.{first-whole, refuses-passed}
use Rattle.neli_msg.proofs.message.Framed+u16+NlPayload+u16+Buffer.to_typed.Goals as goal

pub returns-in_err-payload-clause-refused : goal.returns-in_err-payload-clause-refused
returns-in_err-payload-clause-refused g c =
    refuses-passed c.from_residual.result c.in_err-payload.field-0.0 _ _ _ _ c.from_residual.ensures.1
    (first-whole g.T.Constant.wire_value g.P.FromBytesWithInput.read c.body_len.result c.args.self.now.payload
    c.body_len.ensures)
    (λ h. inl h) c.in_err-payload.ensures.refused

pub returns-in_default-clause-refused : goal.returns-in_default-clause-refused
returns-in_default-clause-refused g c =
    let text : c.from_static.result ≡ codes "Length does not fit its field" = search rules in
    let long : 4294967295 < align (16 + payload_size g.P.Size.wire_length c.in_ok-payload.payload) = search rules in (
      text,
      inr (
        c.in_ok-payload.payload,
        sym (first-whole g.T.Constant.wire_value g.P.FromBytesWithInput.read c.body_len.result c.args.self.now.payload
            c.body_len.ensures) ∙ c.in_ok-payload.ensures.value,
        c.in_ok-payload.ensures.length,
        long,
      ),
    )

pub returns-clause-value : goal.returns-clause-value
returns-clause-value g c =
    sym (first-whole g.T.Constant.wire_value g.P.FromBytesWithInput.read c.body_len.result c.args.self.now.payload
    c.body_len.ensures) ∙ c.in_ok-payload.ensures.value
