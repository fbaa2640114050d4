use Rattle.neli_router.specs.laws.Places.{answer_grows, end_stays}
use Rattle.neli_runs.proofs.laws.answers_only_grow.Goals as goal

pub returns-clause-item : goal.returns-clause-item
returns-clause-item g c = λ needs numbered. answer_grows g.RT.Constant.wire_number numbered needs

pub returns-clause-end : goal.returns-clause-end
returns-clause-end g c = λ needs numbered. end_stays g.RT.Constant.wire_number numbered needs
