use Rattle.neli_log.proofs.Numbers.{found_at}
use Rattle.neli_log.proofs.hints.hashed_index.Goals as goal

pub returns-clause-found : goal.returns-clause-found
returns-clause-found g c =
    found_at c.args.numbers.now c.args.number c.get_index_of.result c.get_index_of.ensures.index
