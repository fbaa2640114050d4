use Rattle.std.proofs.Common.{refl}
use Rattle.neli_kernel_laws.specs.Notified.{group_datagrams, messages_cut_of}
use Rattle.neli_kernel_laws.proofs.Heard.{groups-heard, notifications-cut}
use Rattle.neli_kernel_laws.proofs.notifications_are_heard.Goals as goal

pub returns-clause-read : goal.returns-clause-read
returns-clause-read g c = λ port h o closed is. groups-heard g.RT.Constant.wire_value g.RT.Constant.wire_number
    g.RP.FromBytesWithInput.view g.RP.Size.wire_length g.RP.FromBytesWithInput.read port h
    (messages_cut_of (group_datagrams h)) o closed refl is

pub returns-clause-notified : goal.returns-clause-notified
returns-clause-notified g c = λ port h us o closed are is. groups-heard g.RT.Constant.wire_value
    g.RT.Constant.wire_number g.RP.FromBytesWithInput.view g.RP.Size.wire_length g.RP.FromBytesWithInput.read port h
    us o closed (notifications-cut g.T.Constant.wire_number g.P.ToBytes.wire g.P.Size.wire_length
    c.reply_is_delivered.ensures.one_message (group_datagrams h) us are) is
