use Rattle.neli_runs.proofs.Verdicts.{dump_ended}
use Rattle.neli_runs.proofs.laws.complete_dumps_have_ended.Goals as goal

pub returns : goal.returns
returns g c = λ items answers whole. dump_ended g.RT.Constant.wire_number items answers whole
