use Rattle.std.proofs.Common.{◌≡◌, ℕ, drop}
use Rattle.neli_session.specs.Readiness.{line_among}
use Rattle.neli_session.specs.Sessions.{among, at, when}
use Rattle.neli_session.proofs.requests.Requests.change_all.Given as goal

-- the numbers that are left make of the requests and the line now what all of them made of those before
abbrev pub invariant-loop-number : goal.invariant-loop-number
invariant-loop-number l = record {
  requests : (q : ℕ) → among (drop l.number-index l.numbers) (when l.by) q (at l.self q)
      ≡ among l.numbers (when l.by) q (at l.initial.self q);
  line : line_among (drop l.number-index l.numbers) (when l.by) (at l.self) l.self.line
      ≡ line_among l.numbers (when l.by) (at l.initial.self) l.initial.self.line;
}
