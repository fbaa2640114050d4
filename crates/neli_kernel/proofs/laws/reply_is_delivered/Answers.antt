use Rattle.neli_kernel.proofs.Delivered.{reply-asker, reply-cut, reply-other}
use Rattle.neli_kernel.proofs.laws.reply_is_delivered.Goals as goal

pub returns-clause-one_message : goal.returns-clause-one_message
returns-clause-one_message g c = reply-cut g.T.Constant.wire_number g.P.ToBytes.wire g.P.Size.wire_length
    g.met.P.ToBytes.length_is

pub returns-clause-asker : goal.returns-clause-asker
returns-clause-asker g c = λ t flags number port body text bytes is_open is opened.
    reply-asker g.T.Constant.wire_number g.P.ToBytes.wire g.P.Size.wire_length g.met.P.ToBytes.length_is t flags number
    port body text bytes is is_open opened

pub returns-clause-others : goal.returns-clause-others
returns-clause-others g c = λ t flags number port body text bytes is_open is opened other differs.
    reply-other g.T.Constant.wire_number g.P.ToBytes.wire g.P.Size.wire_length g.met.P.ToBytes.length_is t flags number
    port body text bytes is is_open other opened differs
