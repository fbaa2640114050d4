use Rattle.neli_program.proofs.BadLines.{first_bad}
use Rattle.neli_program.proofs.laws.names_the_first_bad_line.Goals as goal

pub returns : goal.returns
returns c = first_bad
