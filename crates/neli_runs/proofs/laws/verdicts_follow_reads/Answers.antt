use Rattle.neli_router.specs.laws.Verdicts.{given_more, verdict_more}
use Rattle.neli_runs.proofs.laws.verdicts_follow_reads.Goals as goal

pub returns-clause-verdict : goal.returns-clause-verdict
returns-clause-verdict g c = λ needs numbered items x goes.
    verdict_more g.RT.Constant.wire_number needs numbered items x goes

pub returns-clause-given : goal.returns-clause-given
returns-clause-given g c = λ needs numbered items x goes.
    given_more g.RT.Constant.wire_number needs numbered items x goes
