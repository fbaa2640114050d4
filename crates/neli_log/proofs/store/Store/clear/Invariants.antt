use Rattle.std.proofs.Common.{◌≡◌, ◌≢◌, ℕ, Option, is_some}
use Rattle.neli_log.specs.Log.{IsTrimmedAndBacked, KeepsNoMore, pending_of}
use Rattle.neli_log.proofs.Stores.{waiting_count}
use Rattle.neli_log.proofs.store.Store.clear.Given as goal

-- a list is still open, and no other has changed
abbrev pub invariant-loop-whose : goal.invariant-loop-whose
invariant-loop-whose l = record {
  port : l.self.port ≡ l.initial.self.port;
  there : is_some (pending_of l.self l.whose) ≡ is_some (pending_of l.initial.self l.whose);
  others : (w : Option ℕ) → w ≢ l.whose → pending_of l.self w ≡ pending_of l.initial.self w;
  fewer : KeepsNoMore l.initial.self l.self;
  log : IsTrimmedAndBacked l.self;
}

-- the number of deliveries that wait
abbrev pub decreases-loop-whose : goal.decreases-loop-whose
decreases-loop-whose l = waiting_count (pending_of l.self l.whose)
