use Rattle.std.proofs.Common.{◌≡◌, ◌+◌, ◌-◌, ◌<◌, ℕ, true, length}
use Rattle.std.specs.Prelude.{is_some}
use Rattle.neli_session.specs.Sends.{SameMails, SameReaders, number_after}
use Rattle.neli_session.specs.Sessions.{at}
use Rattle.neli_session.proofs.session.Session.take_number.Given as goal

-- only the number to try changes; those before it are in use
abbrev pub invariant-loop-tries : goal.invariant-loop-tries
invariant-loop-tries l = record {
  requests : l.self.requests ≡ l.fn.self.requests;
  fits : l.fn.self.next_number < 4294967296;
  next : l.self.next_number ≡ number_after l.fn.self.next_number l.tries;
  taken : (j : ℕ) → j < l.tries → is_some (at l.fn.self.requests (number_after l.fn.self.next_number j)) ≡ true;
  readers : SameReaders l.fn.self l.self;
  mails : SameMails l.fn.self l.self;
  awaited : l.self.awaited ≡ l.fn.self.awaited;
  congested : l.self.is_congested ≡ l.fn.self.is_congested;
  port : l.self.port ≡ l.fn.self.port;
  protocol : l.self.protocol ≡ l.fn.self.protocol;
}

abbrev pub decreases-loop-tries : goal.decreases-loop-tries
decreases-loop-tries l = length l.self.requests.entries + 1 - l.tries
