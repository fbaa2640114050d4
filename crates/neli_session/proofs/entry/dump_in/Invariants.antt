use Rattle.std.proofs.Common.{◌≡◌, ◌++◌, drop}
use Rattle.std.specs.Prelude.{option_to_list}
use Rattle.neli_session.specs.Mails.{dumps_of}
use Rattle.neli_session.proofs.entry.dump_in.Given as goal

-- the dump that was found, and those that are left, are all
abbrev pub invariant-loop-entry : goal.invariant-loop-entry
invariant-loop-entry l = dumps_of l.entries ≡ option_to_list l.found ++ dumps_of (drop l.entry-index l.entries)
