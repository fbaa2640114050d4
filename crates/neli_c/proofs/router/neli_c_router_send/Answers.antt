use Rattle.std.proofs.Common.{◌≡◌, ◌≢◌}
use Rattle.neli_c_parts.specs.Codes.{ok}
use Rattle.neli_c_parts.specs.Sessions.{RefusesRequest, SaysNeeded, SendsNothing, SendsRequest}
use Rattle.neli_c_parts.specs.Listens.{MissesSame}
use Rattle.neli_c.proofs.Opened.{carried, carried-along}
use Rattle.neli_c.proofs.router.neli_c_router_send.Goals as goal

pub returns-clause-open : goal.returns-clause-open
returns-clause-open c =
    carried (λ z s t. (z ≢ ok → SendsNothing s t × RefusesRequest z c.args.body.now s c.args.out.now
    × SaysNeeded z c.args.body.now c.args.sent.now c.send-code.new.sent) × (z ≡ ok
    → SendsRequest c.args.nl_type c.args.flags c.args.body.now s t c.args.out.now c.send-code.new.out
    c.send-code.new.sent)) c.send-code.result _ _ _ c.deref_mut.result.now _ (record {
      sfits =
          c.send-code.type_inv;
    }) c.in-Some.ensures.taken c.deref_mut.ensures.value c.put.ensures (
      λ ne. (c.send-code.ensures.refused ne, c.send-code.ensures.why ne, c.send-code.ensures.needed ne),
      c.send-code.ensures.sent,
    )

pub returns-clause-missed : goal.returns-clause-missed
returns-clause-missed c =
    carried-along (λ s t. MissesSame s t) _ _ _ c.deref_mut.result.now _ c.in-Some.ensures.taken
    c.deref_mut.ensures.value c.put.ensures c.send-code.ensures.missed
