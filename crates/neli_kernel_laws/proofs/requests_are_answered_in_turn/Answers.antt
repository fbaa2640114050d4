use Rattle.neli_kernel_laws.proofs.Came.{read-in-turn}
use Rattle.neli_kernel_laws.proofs.requests_are_answered_in_turn.Goals as goal

pub returns-clause-read : goal.returns-clause-read
returns-clause-read g c = read-in-turn g.RT.Constant.wire_value g.RT.Constant.wire_number g.RP.FromBytesWithInput.view
    g.RP.Size.wire_length g.RP.FromBytesWithInput.read g.met.RT.Constant.back_to_number
