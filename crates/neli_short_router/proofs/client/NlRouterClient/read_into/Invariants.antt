use Rattle.std.proofs.Common.{◌≡◌, List, ◌++◌}
use Rattle.neli_router.specs.Verdicts.{heard_of}
use Rattle.neli_short_router.specs.Reads.{AreReads, LeavesRest, standing}
use Rattle.neli_short_router.proofs.Following.{left}
use Rattle.neli_short_router.proofs.client.NlRouterClient.read_into.Given as goal

-- the items so far, and what no read changes
abbrev pub invariant-items : goal.invariant-items
invariant-items g l = record {
  rest : LeavesRest g.D.Deliveries.port_of g.D.Deliveries.pending l.initial.handle l.handle l.initial.self l.self;
  reads : (given : List _) × AreReads g.T.Constant.wire_value g.T.Constant.wire_number g.P.FromBytesWithInput.view
      g.P.Size.wire_length g.P.FromBytesWithInput.read
      (standing l.initial.handle (g.D.Deliveries.pending l.initial.self.deliveries) (heard_of l.initial.self.heard))
      given (standing l.handle (g.D.Deliveries.pending l.self.deliveries) (heard_of l.self.heard))
      × (l.items.items ≡ l.initial.items.items ++ given);
}

abbrev pub decreases-items : goal.decreases-items
decreases-items g l = left (standing l.handle (g.D.Deliveries.pending l.self.deliveries) (heard_of l.self.heard))
