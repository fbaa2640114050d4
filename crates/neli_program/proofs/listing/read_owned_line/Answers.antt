use Rattle.neli_program.proofs.listing.read_owned_line.Goals as goal

pub returns-clause-value : goal.returns-clause-value
returns-clause-value c = (_, c.in_ok-message.ensures.value, c.of.ensures)
