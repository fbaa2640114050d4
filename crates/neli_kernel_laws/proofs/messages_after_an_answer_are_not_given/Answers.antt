use Rattle.neli_kernel_laws.proofs.Exchanges.{served-before}
use Rattle.neli_kernel_laws.proofs.Given.{given-before}
use Rattle.neli_kernel_laws.proofs.messages_after_an_answer_are_not_given.Goals as goal

pub returns-clause-turn : goal.returns-clause-turn
returns-clause-turn g c = given-before g.RT.Constant.wire_value g.RT.Constant.wire_number g.RP.FromBytesWithInput.view
    g.RP.Size.wire_length g.RP.FromBytesWithInput.read g.met.RT.Constant.back_to_number

pub returns-clause-served : goal.returns-clause-served
returns-clause-served g c = served-before g.RT.Constant.wire_value g.RT.Constant.wire_number
    g.RP.FromBytesWithInput.view g.RP.Size.wire_length g.RP.FromBytesWithInput.read g.met.RT.Constant.back_to_number
