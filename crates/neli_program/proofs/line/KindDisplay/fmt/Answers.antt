use Rattle.neli_program.proofs.line.KindDisplay.fmt.Goals as goal

pub returns-in-Error-clause-writes : goal.returns-in-Error-clause-writes
returns-in-Error-clause-writes g c = rw c.in-Error.is c.write-in-Error.ensures.writes

pub returns-in-Done-clause-writes : goal.returns-in-Done-clause-writes
returns-in-Done-clause-writes g c = rw c.in-Done.is c.write-in-Done.ensures.writes

pub returns-in-Capped-clause-writes : goal.returns-in-Capped-clause-writes
returns-in-Capped-clause-writes g c = rw c.in-Capped.is c.write-in-Capped.ensures.writes
