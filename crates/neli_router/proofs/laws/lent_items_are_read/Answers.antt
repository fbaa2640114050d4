use Rattle.neli_router.proofs.LentTypes.{delivery_handle, delivery_heard, delivery_item, lent_owned}
use Rattle.neli_router.proofs.laws.lent_items_are_read.Goals as goal

pub returns-clause-item : goal.returns-clause-item
returns-clause-item g c = λ needs numbered single d x fits is ok.
    delivery_item g.T.Constant.wire_value g.P.FromBytesWithInput.view g.P.Size.wire_length g.P.FromBytesWithInput.read
    g.T.Constant.wire_number g.met.T.Constant.back_to_number needs numbered single d x fits is ok

pub returns-clause-handle : goal.returns-clause-handle
returns-clause-handle g c = λ needs numbered single d x fits is ok.
    delivery_handle g.T.Constant.wire_value g.P.FromBytesWithInput.view g.P.Size.wire_length
    g.P.FromBytesWithInput.read g.T.Constant.wire_number g.met.T.Constant.back_to_number needs numbered single d x fits
    is ok

pub returns-clause-heard : goal.returns-clause-heard
returns-clause-heard g c = λ needs numbered single d x h fits is ok.
    delivery_heard g.T.Constant.wire_value g.P.FromBytesWithInput.view g.P.Size.wire_length
    g.P.FromBytesWithInput.read g.T.Constant.wire_number g.met.T.Constant.back_to_number needs numbered single d x h
    fits is ok

pub returns-clause-message : goal.returns-clause-message
returns-clause-message g c = λ m u x lends fits typed.
    lent_owned g.T.Constant.wire_value g.P.FromBytesWithInput.view g.P.Size.wire_length g.P.FromBytesWithInput.read
    g.T.Constant.wire_number g.met.T.Constant.back_to_number m u x lends fits typed
