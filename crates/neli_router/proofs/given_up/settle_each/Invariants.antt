use Rattle.std.proofs.Common.{◌≡◌, ℕ, Option, take}
use Rattle.neli_lent.specs.Messages.{messages_in}
use Rattle.neli_router.specs.GivenUp.{kept_of}
use Rattle.neli_router.proofs.given_up.settle_each.Given as goal

-- the requests so far are settled
abbrev pub invariant-loop-request : goal.invariant-loop-request
invariant-loop-request g l = record {
  port : g.D.Deliveries.port_of l.deliveries ≡ g.D.Deliveries.port_of l.initial.deliveries;
  kept : (w : Option ℕ) → g.D.Deliveries.pending l.deliveries w
      ≡ kept_of (g.D.Deliveries.port_of l.initial.deliveries) (take l.request-index l.given_up) (messages_in (λ n. n) l.bytes).0 w
      (g.D.Deliveries.pending l.initial.deliveries w);
}
