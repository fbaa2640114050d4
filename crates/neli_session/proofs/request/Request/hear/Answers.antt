use Rattle.neli_lent.specs.Messages.{message_view}
use Rattle.neli_session.specs.Messages.{messages_of}
use Rattle.std.proofs.Common.{take}
use Rattle.neli_session.proofs.Runs.{run-some}
use Rattle.neli_session.proofs.request.Request.hear.Goals as goal

pub add-requires : goal.add-requires
add-requires c = (
  c.run_of-run.ensures.whole,
  run-some c.args.self.now.answering (message_view c.args.message.now) (messages_of (take c.run_of-run.result.length c.args.bytes.now))
      c.run_of-run.result.ended c.run_of-run.ensures.messages,
)
