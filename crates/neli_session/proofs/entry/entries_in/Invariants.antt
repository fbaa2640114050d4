use Rattle.std.proofs.Common.{◌≡◌, ◌-◌, ◌≤◌, length, take}
use Rattle.neli_session.specs.Messages.{IsWhole}
use Rattle.neli_session.specs.Mails.{entries_of}
use Rattle.neli_session.proofs.entry.entries_in.Given as goal

-- the messages before the place are these requests
abbrev pub invariant-loop-place : goal.invariant-loop-place
invariant-loop-place l = record {
  within : l.place ≤ length l.requests;
  whole : IsWhole (take l.place l.requests);
  entries : l.entries.items ≡ entries_of l.protocol l.by (take l.place l.requests);
}

abbrev pub decreases-loop-place : goal.decreases-loop-place
decreases-loop-place l = length l.requests - l.place
