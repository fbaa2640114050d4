use Rattle.neli_log.proofs.Stores.{first_readable}
use Rattle.neli_log.proofs.store.Store.lend_first.Goals as goal

pub lend-requires : goal.lend-requires
lend-requires c =
    let s = c.args.self.now in
    let is = rw c.in-Some.is at c.first.ensures in
    first_readable s.places s.datagrams c.args.whose c.in-Some.content.now c.requires.backed is
