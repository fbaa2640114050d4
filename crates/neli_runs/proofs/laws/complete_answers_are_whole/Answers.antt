use Rattle.neli_runs.proofs.Verdicts.{whole_answer}
use Rattle.neli_runs.proofs.laws.complete_answers_are_whole.Goals as goal

pub returns : goal.returns
returns g c = λ needs numbered ds items are whole.
    whole_answer g.RT.Constant.wire_value g.RT.Constant.wire_number g.RP.FromBytesWithInput.view
    g.RP.Size.wire_length g.RP.FromBytesWithInput.read needs numbered ds items are whole
