use Rattle.std.proofs.Common.{[], refl}
use Rattle.neli_program.proofs.play.Playing.start.Goals as goal

pub returns-clause-none : goal.returns-clause-none
returns-clause-none g c = ([], c.in_ok-run.ensures, c.new-lines.ensures.items, refl)
