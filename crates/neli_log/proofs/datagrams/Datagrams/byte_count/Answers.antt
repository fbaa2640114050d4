use Rattle.std.proofs.Common.{◌∙◌, ap}
use Rattle.neli_log.specs.Bytes.{byte_count}
use Rattle.neli_log.proofs.Named.{none_named}
use Rattle.neli_log.proofs.datagrams.Datagrams.byte_count.Goals as goal

pub returns-clause-none : goal.returns-clause-none
returns-clause-none c = λ h.
    let s = c.args.self.now in
    s.counted ∙ ap byte_count (none_named s.first s.list.items h)
