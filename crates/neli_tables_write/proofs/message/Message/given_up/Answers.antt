use Rattle.std.proofs.Common.{ap}
use Rattle.neli_tables_write.specs.Messages.{message_view}
use Rattle.neli_tables_write.proofs.Growing.{front_seen, with_asked}
use Rattle.neli_tables_write.proofs.message.Message.given_up.Goals as goal

pub returns : goal.returns
returns c =
    ap (with_asked (message_view c.args.self.now))
    (front_seen c.args.before.0 c.args.self.now.asked.items c.truncate.new.self.items c.truncate.ensures.items)
