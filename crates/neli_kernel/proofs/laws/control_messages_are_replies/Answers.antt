use Rattle.std.proofs.Common.{arith}
use Rattle.neli_kernel.proofs.Delivered.{control-reply}
use Rattle.neli_kernel.proofs.laws.control_messages_are_replies.Goals as goal

pub returns-clause-no_operation : goal.returns-clause-no_operation
returns-clause-no_operation c = λ asked bytes addressed is.
    control-reply 1 asked bytes (λ e. cc) (λ e. cc) (omega arith) addressed is

pub returns-clause-overrun : goal.returns-clause-overrun
returns-clause-overrun c = λ asked bytes addressed is.
    control-reply 4 asked bytes (λ e. cc) (λ e. cc) (omega arith) addressed is
