use Rattle.neli_program.proofs.report.write_error.Goals as goal

pub returns-in-BadSeqOrPid : goal.returns-in-BadSeqOrPid
returns-in-BadSeqOrPid g c =
    rw c.in-BadSeqOrPid.is (rw (c.nl_seq.ensures, c.nl_pid.ensures) at c.write-in-BadSeqOrPid.ensures.bytes)
