use Rattle.neli_kernel_laws.proofs.Given.{given-in-turn}
use Rattle.neli_kernel_laws.proofs.answers_are_given_in_turn.Goals as goal

pub returns : goal.returns
returns g c = given-in-turn g.RT.Constant.wire_value g.RT.Constant.wire_number g.RP.FromBytesWithInput.view
    g.RP.Size.wire_length g.RP.FromBytesWithInput.read g.met.RT.Constant.back_to_number
