use Rattle.std.proofs.Common.{◌∙◌}
use Rattle.neli_router.specs.Rule.{has_number}
use Rattle.neli_short_router.proofs.Following.{goes_on, nothing_read, nothing_stops}
use Rattle.neli_short_router.proofs.laws.reads_are_the_answer.Goals as goal

pub returns-clause-goes_on : goal.returns-clause-goes_on
returns-clause-goes_on g c = λ s t before given ds has waits are.
    goes_on g.T.Constant.wire_value g.T.Constant.wire_number g.P.FromBytesWithInput.view g.P.Size.wire_length
    g.P.FromBytesWithInput.read s t before given ds has waits are

pub returns-clause-begins : goal.returns-clause-begins
returns-clause-begins g c = λ s answering single ended heard. record {
  single = single;
  ended = ended
      ∙ nothing_stops g.row.P.Denot g.T.Constant.wire_number (has_number s.handle.number) s.handle.needs_ack;
  verdict = rw heard
      (nothing_read g.row.P.Denot g.T.Constant.wire_number (has_number s.handle.number) s.handle.needs_ack);
}
