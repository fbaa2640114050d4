use Rattle.neli_program.proofs.BadLines.{good_lines}
use Rattle.neli_program.proofs.laws.has_good_lines.Goals as goal

pub returns : goal.returns
returns c = good_lines
