use Rattle.neli_genl.proofs.ProcEvents.{proc_event-back, proc_event-before}
use Rattle.neli_genl.proofs.laws.proc_event_is_read_back.Goals as goal

pub returns-clause-back : goal.returns-clause-back
returns-clause-back c = proc_event-back

pub returns-clause-skipped : goal.returns-clause-skipped
returns-clause-skipped c = proc_event-before
