use Rattle.neli_tables_write.specs.Messages.{Grows, message_view}
use Rattle.neli_tables_write.proofs.message.Message.enter.Given as goal

-- more may be asked for, and nothing is lost
abbrev pub invariant-loop-name : goal.invariant-loop-name
invariant-loop-name l = Grows (message_view l.initial.self) (message_view l.self)
