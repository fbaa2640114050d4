use Rattle.neli_router.specs.laws.Verdicts.{verdict_stays}
use Rattle.neli_runs.proofs.laws.verdicts_stay.Goals as goal

pub returns : goal.returns
returns g c = λ needs numbered items more not.
    verdict_stays g.RT.Constant.wire_number needs numbered items more not
