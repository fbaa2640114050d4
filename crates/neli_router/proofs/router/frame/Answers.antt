use Rattle.std.proofs.Common.{rules}
use Rattle.neli_router.proofs.Sends.{refused-request}
use Rattle.neli_router.proofs.router.frame.Goals as goal

pub returns-clause-refused : goal.returns-clause-refused
returns-clause-refused g c =
    rw c.into.ensures (rw c.from.ensures
    (refused-request g.ST.Constant.wire_number g.SP.ToBytes.wire g.SP.Size.wire_length c.args.port c.args.number
    c.args.nl_type c.args.nl_flags c.args.nl_payload c.in-Ok.message _ c.in-Err.error
    (search rules) c.in-Err.ensures.refused))
