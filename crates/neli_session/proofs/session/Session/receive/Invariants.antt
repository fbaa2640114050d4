use Rattle.std.proofs.Common.{◌≡◌, ◌-◌, ◌≤◌, length, take}
use Rattle.neli_session.specs.Messages.{IsWhole, messages_of}
use Rattle.neli_session.specs.Readiness.{line_after_all}
use Rattle.neli_session.specs.Sends.{SameSending}
use Rattle.neli_session.specs.Sessions.{HaveCome, at}
use Rattle.neli_session.proofs.session.Session.receive.Given as goal

-- the messages before the place have come
abbrev pub invariant-loop-place : goal.invariant-loop-place
invariant-loop-place l = record {
  within : l.place ≤ length l.datagram;
  whole : IsWhole (take l.place l.datagram);
  come : HaveCome l.fn.self.port l.group l.is_joined (messages_of (take l.place l.datagram)) (at l.fn.self.requests)
      (at l.self.requests) l.fn.self.multicast l.self.multicast l.fn.self.unasked l.self.unasked;
  line : l.self.requests.line ≡ line_after_all l.fn.self.port l.group (messages_of (take l.place l.datagram))
      (at l.fn.self.requests) l.fn.self.requests.line;
  sending : SameSending l.fn.self l.self;
}

abbrev pub decreases-loop-place : goal.decreases-loop-place
decreases-loop-place l = length l.datagram - l.place
