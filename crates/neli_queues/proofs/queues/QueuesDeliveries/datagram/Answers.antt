use Rattle.std.proofs.Common.{◌≡◌, [], arith}
use Rattle.std.proofs.lemmas.Grind.{common_steps}
use Rattle.std.proofs.lemmas.List.{nil_from_length}
use Rattle.neli_queues.specs.Pieces.{is_open}
use Rattle.neli_queues.specs.Queues.{pending_of}
use Rattle.neli_queues.proofs.Empty.{received_empty}
use Rattle.neli_queues.proofs.queues.QueuesDeliveries.datagram.Goals as goal

pub returns-then-is_empty-clause-ok : goal.returns-then-is_empty-clause-ok
returns-then-is_empty-clause-ok c = λ w.
    let none : c.args.bytes.now ≡ [] = nil_from_length _ (grind (arith, common_steps)) in
    received_empty c.args.self.now.port (is_open c.args.self.now.numbers) c.args.bytes.now none c.args.groups.now w
    (pending_of c.args.self.now w)
