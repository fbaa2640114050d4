use Rattle.neli_kernel.proofs.Delivered.{notification-heard, notification-other}
use Rattle.neli_kernel.proofs.laws.notification_is_delivered.Goals as goal

pub returns-clause-multicast : goal.returns-clause-multicast
returns-clause-multicast g c = λ t flags number port body text bytes own group groups is_open is.
    notification-heard g.T.Constant.wire_number g.P.ToBytes.wire g.P.Size.wire_length g.met.P.ToBytes.length_is t flags
    number port body text bytes is own group groups is_open

pub returns-clause-numbered : goal.returns-clause-numbered
returns-clause-numbered g c = λ t flags number port body text bytes own group q groups is_open is.
    notification-other g.T.Constant.wire_number g.P.ToBytes.wire g.P.Size.wire_length g.met.P.ToBytes.length_is t flags
    number port body text bytes is own group groups is_open q
