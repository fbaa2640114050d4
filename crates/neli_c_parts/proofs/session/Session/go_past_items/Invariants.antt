use Rattle.std.proofs.Common.{◌≡◌}
use Rattle.neli_c_parts.specs.Ahead.{PassesTimes}
use Rattle.neli_c_parts.specs.Listens.{MissesSame}
use Rattle.neli_c_parts.proofs.session.Session.go_past_items.Given as goal

-- so many are passed
abbrev pub invariant-loop-done : goal.invariant-loop-done
invariant-loop-done l =
    PassesTimes l.done l.fn.handle l.handle l.fn.self l.self × (l.self.handles ≡ l.fn.self.handles)
    × (l.self.freed ≡ l.fn.self.freed) × (l.self.held ≡ l.fn.self.held) × MissesSame l.fn.self l.self
