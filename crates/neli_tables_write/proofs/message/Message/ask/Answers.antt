use Rattle.std.proofs.Common.{refl}
use Rattle.neli_tables_write.specs.Messages.{message_view}
use Rattle.neli_tables_write.proofs.Growing.{grows_by}
use Rattle.neli_tables_write.proofs.message.Message.ask.Goals as goal

pub returns-clause-grows : goal.returns-clause-grows
returns-clause-grows c =
    grows_by (message_view c.args.self.now) c.args.self.now.asked.items c.push.new.self.items _
    c.in_ok-push.ensures.items refl
