use Rattle.std.proofs.Common.{drop, map}
use Rattle.neli_print.specs.MessageFlags.{flag_view}
use Rattle.neli_print.specs.Flags.{all_left, flags_from}
use Rattle.neli_print.proofs.Loops.{IsPrinted}
use Rattle.neli_print.proofs.flags.FlagsDisplay.fmt.Given as goal

-- the output so far, and the flags from here on, are all of it
abbrev pub invariant-loop-row : goal.invariant-loop-row
invariant-loop-row g l =
    let me = l.fn.self in
    IsPrinted g.W.Write.write_str_gives l.initial.f l.f
    (flags_from me.form me.set l.left (map flag_view (drop l.row-index me.rows.now)))
    (flags_from me.form me.set (all_left me.set) (map flag_view me.rows.now))
