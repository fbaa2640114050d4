use Rattle.neli_session_laws.proofs.Answered.{simulated_answered}
use Rattle.neli_session_laws.proofs.laws.simulated_requests_are_answered.Goals as goal

pub returns : goal.returns
returns c =
    simulated_answered c.requests_are_answered.ensures c.simulated_answers_are_whole.ensures c.no_dump_is_refused.ensures
