use Rattle.neli_kernel_laws.proofs.Exchanges.{served-in-turn}
use Rattle.neli_kernel_laws.proofs.request_is_answered.Goals as goal

pub returns : goal.returns
returns g c = served-in-turn g.RT.Constant.wire_value g.RT.Constant.wire_number g.RP.FromBytesWithInput.view
    g.RP.Size.wire_length g.RP.FromBytesWithInput.read g.met.RT.Constant.back_to_number
