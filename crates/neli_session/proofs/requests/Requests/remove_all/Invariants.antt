use Rattle.std.proofs.Common.{◌≡◌, ℕ, drop}
use Rattle.neli_session.specs.Readiness.{AreAway}
use Rattle.neli_session.specs.Sends.{without_entries}
use Rattle.neli_session.specs.Sessions.{at}
use Rattle.neli_session.proofs.requests.Requests.remove_all.Given as goal

-- the requests that are left make of those now what all of them made of those before
abbrev pub invariant-loop-entry : goal.invariant-loop-entry
invariant-loop-entry l = record {
  removed : (q : ℕ) → without_entries (drop l.entry-index l.entries) q (at l.self q)
      ≡ without_entries l.entries q (at l.initial.self q);
  away : AreAway (drop l.entry-index l.entries) l.self.line;
  line : l.self.line ≡ l.initial.self.line;
}
