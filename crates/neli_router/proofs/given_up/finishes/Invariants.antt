use Rattle.std.proofs.Common.{◌≡◌, ◌≢◌, ℕ, ◌||◌, List, Option, Some}
use Rattle.neli_deliveries.specs.declared.delivery.Delivery.{Delivery}
use Rattle.neli_router.specs.GivenUp.{finishes}
use Rattle.neli_router.proofs.Settling.{waiting_count}
use Rattle.neli_router.proofs.given_up.finishes.Given as goal

-- the rest of the list, and what was found before it
abbrev pub invariant-loop-heading : goal.invariant-loop-heading
invariant-loop-heading g l = record {
  port : g.D.Deliveries.port_of l.deliveries ≡ g.D.Deliveries.port_of l.initial.deliveries;
  others : (w : Option ℕ) → w ≢ Some l.number → g.D.Deliveries.pending l.deliveries w ≡ g.D.Deliveries.pending l.initial.deliveries w;
  left : (ds : List Delivery) → g.D.Deliveries.pending l.initial.deliveries (Some l.number) ≡ Some ds
      → (rest : List Delivery) × (g.D.Deliveries.pending l.deliveries (Some l.number) ≡ Some rest)
      × ((l.last || finishes l.answering rest) ≡ finishes l.answering ds);
}

abbrev pub decreases-loop-heading : goal.decreases-loop-heading
decreases-loop-heading g l = waiting_count (g.D.Deliveries.pending l.deliveries (Some l.number))
