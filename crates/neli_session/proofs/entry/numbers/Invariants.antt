use Rattle.std.proofs.Common.{◌≡◌, ◌++◌, drop}
use Rattle.neli_session.specs.Mails.{numbers_of}
use Rattle.neli_session.proofs.entry.numbers.Given as goal

-- the numbers so far, and those that are left, are all
abbrev pub invariant-loop-entry : goal.invariant-loop-entry
invariant-loop-entry l = l.numbers.items ++ numbers_of (drop l.entry-index l.entries) ≡ numbers_of l.entries
