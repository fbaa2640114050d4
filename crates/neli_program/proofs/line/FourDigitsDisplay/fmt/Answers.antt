use Rattle.std.proofs.Common.{rules}
use Rattle.neli_program.proofs.Texts.{hex4_is}
use Rattle.neli_program.proofs.line.FourDigitsDisplay.fmt.Goals as goal

pub returns-clause-writes : goal.returns-clause-writes
returns-clause-writes g c = rw (← hex4_is c.args.self.now.0) (search rules)
