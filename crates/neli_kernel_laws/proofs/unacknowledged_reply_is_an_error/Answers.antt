use Rattle.neli_kernel_laws.proofs.Unacknowledged.{unacknowledged-end, unacknowledged-error}
use Rattle.neli_kernel_laws.proofs.unacknowledged_reply_is_an_error.Goals as goal

pub returns-clause-error : goal.returns-clause-error
returns-clause-error g c = λ u next more m r whole none is. unacknowledged-error g.RT.Constant.wire_value
    g.RT.Constant.wire_number g.RP.FromBytesWithInput.view g.RP.Size.wire_length g.RP.FromBytesWithInput.read
    g.met.RT.Constant.back_to_number u next more whole none m r is

pub returns-clause-end : goal.returns-clause-end
returns-clause-end g c = λ u next more m second given r whole is. unacknowledged-end g.RT.Constant.wire_value
    g.RT.Constant.wire_number g.RP.FromBytesWithInput.view g.RP.Size.wire_length g.RP.FromBytesWithInput.read
    g.met.RT.Constant.back_to_number u next more whole m second given r is
