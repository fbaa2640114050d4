use Rattle.std.specs.Int.{w32}
use Rattle.std.proofs.lemmas.Int.{to_z-of_z}
use Rattle.neli_kernel.proofs.Dumps.{finished-put}
use Rattle.neli_kernel.proofs.dump.Dump.finish.Goals as goal

pub returns-clause-datagrams : goal.returns-clause-datagrams
returns-clause-datagrams c =
    finished-put c.args.self.limit c.args.self.request c.args.nl_flags c.args.ext_ack c.args.code _ _ _ _
    (to_z-of_z w32 c.args.code c.ranges.code) c.in_ok-push_end.ensures.put c.in_ok-datagrams.ensures
