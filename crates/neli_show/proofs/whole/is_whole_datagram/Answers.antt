use Rattle.std.proofs.Common.{◌∙◌, ap, sym}
use Rattle.std.specs.List.{list_all}
use Rattle.std.specs.Prelude.{is_ok}
use Rattle.neli_show.proofs.Messages.{are_whole}
use Rattle.neli_show.proofs.whole.is_whole_datagram.Goals as goal

pub returns-in-Err : goal.returns-in-Err
returns-in-Err c =
    sym (ap (list_all is_ok) (rw c.in-Err.is at c.in-Some.ensures.steps))
    ∙ sym c.loop-message.invariant
    ∙ are_whole c.args.bytes.now
