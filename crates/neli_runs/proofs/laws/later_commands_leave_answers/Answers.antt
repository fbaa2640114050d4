use Rattle.neli_runs.proofs.Later.{answer-more, deliveries-later}
use Rattle.neli_runs.specs.Deliveries.{deliveries}
use Rattle.neli_runs.proofs.laws.later_commands_leave_answers.Goals as goal

pub returns-clause-deliveries : goal.returns-clause-deliveries
returns-clause-deliveries g c port k before later = deliveries-later port k before later

pub returns-clause-answer : goal.returns-clause-answer
returns-clause-answer g c port k needs numbered given r before later other h =
    let more = deliveries-later port k before later in
    rw more.1 (answer-more g.RT.Constant.wire_value g.RT.Constant.wire_number g.RP.FromBytesWithInput.view
    g.RP.Size.wire_length g.RP.FromBytesWithInput.read needs numbered
    (deliveries port k before) more.0 given r other h)
