use Rattle.std.proofs.Common.{sym, ◌∙◌}
use Rattle.neli_router.proofs.Settling.{heard-put}
use Rattle.neli_router.proofs.Sends.{refused_request}
use Rattle.neli_router.proofs.router.NlRouter.send_expecting.Goals as goal

pub returns-in_err-bytes-clause-refused : goal.returns-in_err-bytes-clause-refused
returns-in_err-bytes-clause-refused g c =
    refused_request g.ST.Constant.wire_number g.SP.ToBytes.wire g.SP.Size.wire_length _ _ c.args.self.now.next_seq _
    c.args.nl_type c.args.nl_flags c.args.nl_payload
    c.from_residual.result c.in_err-bytes.field-0.0 c.pid.ensures (sym c.is_open.ensures
    ∙ c.if-is_open.false) c.from_residual.ensures.1 c.in_err-bytes.ensures.refused

pub returns-clause-heard : goal.returns-clause-heard
returns-clause-heard g c =
    rw c.begun.ensures at (heard-put c.args.self.now.heard c.insert.new.self c.args.self.now.next_seq c.begun.result
    c.in-Ok.ensures.updates)
