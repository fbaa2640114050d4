use Rattle.std.proofs.Common.{◌≡◌, ◌-◌, ◌≤◌, ◌++◌, drop, length, take}
use Rattle.neli_session.specs.Mails.{next_mail, without_next}
use Rattle.neli_session.proofs.outbox.take_next.Given as goal

-- none of those before the place may go out
abbrev pub invariant-loop-place : goal.invariant-loop-place
invariant-loop-place l = record {
  within : l.place ≤ length l.initial.mails.items;
  same : l.mails ≡ l.initial.mails;
  next : next_mail l.runs l.initial.mails.items ≡ next_mail l.runs (drop l.place l.initial.mails.items);
  others : without_next l.runs l.initial.mails.items
      ≡ take l.place l.initial.mails.items ++ without_next l.runs (drop l.place l.initial.mails.items);
}

abbrev pub decreases-loop-place : goal.decreases-loop-place
decreases-loop-place l = length l.mails.items - l.place
