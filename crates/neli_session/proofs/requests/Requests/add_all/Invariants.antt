use Rattle.std.proofs.Common.{◌≡◌, ◌-◌, ◌≤◌, ℕ, drop, length, take}
use Rattle.neli_session.specs.Readiness.{AreAway}
use Rattle.neli_session.specs.Sends.{first_taken, with_entries, without_entries}
use Rattle.neli_session.specs.Sessions.{at}
use Rattle.neli_session.proofs.requests.Requests.add_all.Given as goal

-- those before the count were added, and do not stand in line; without them the requests are as before; their numbers
-- were free
abbrev pub invariant-loop-count : goal.invariant-loop-count
invariant-loop-count l = record {
  within : l.count ≤ length l.entries;
  added : (q : ℕ) → at l.self q ≡ with_entries (take l.count l.entries) q (at l.initial.self q);
  back : (q : ℕ) → without_entries (take l.count l.entries) q (at l.self q) ≡ at l.initial.self q;
  free : first_taken (at l.initial.self) l.entries ≡ first_taken (at l.self) (drop l.count l.entries);
  line : l.self.line ≡ l.initial.self.line;
  away : AreAway (take l.count l.entries) l.self.line;
}

abbrev pub decreases-loop-count : goal.decreases-loop-count
decreases-loop-count l = length l.entries - l.count
