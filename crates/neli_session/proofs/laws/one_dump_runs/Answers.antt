use Rattle.neli_session.proofs.Calls.{one-dump-runs}
use Rattle.neli_session.proofs.laws.one_dump_runs.Goals as goal

pub returns : goal.returns
returns c = one-dump-runs
