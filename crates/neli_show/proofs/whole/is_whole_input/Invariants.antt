use Rattle.std.proofs.Common.{◌≡◌, take, true}
use Rattle.neli_show.specs.Lines.{is_whole_input}
use Rattle.neli_show.proofs.whole.is_whole_input.Given as goal

-- the parts so far are messages alone
abbrev pub invariant-loop-part : goal.invariant-loop-part
invariant-loop-part l = is_whole_input l.input.bytes.items (take l.part-index l.part-items) ≡ true
