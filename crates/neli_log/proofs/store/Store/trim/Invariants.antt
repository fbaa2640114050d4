use Rattle.std.proofs.Common.{◌≡◌, ℕ, Option, length}
use Rattle.neli_log.specs.Places.{IsSound, entries_of}
use Rattle.neli_log.specs.Contents.{AreBacked}
use Rattle.neli_log.specs.Log.{KeepsNoMore, pending_of}
use Rattle.neli_log.proofs.store.Store.trim.Given as goal

abbrev pub invariant-loop-content : goal.invariant-loop-content
invariant-loop-content l = record {
  port : l.self.port ≡ l.initial.self.port;
  same : (w : Option ℕ) → pending_of l.self w ≡ pending_of l.initial.self w;
  sound : IsSound l.self.places;
  backed : AreBacked l.self.datagrams (entries_of l.self.places);
  fewer : KeepsNoMore l.initial.self l.self;
}

abbrev pub decreases-loop-content : goal.decreases-loop-content
decreases-loop-content l = length (entries_of l.self.places)
