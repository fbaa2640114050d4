use Rattle.std.proofs.Common.{◌∙◌}
use Rattle.neli_log.specs.Places.{pending_of as items_of}
use Rattle.neli_log.specs.Spans.{span_bytes}
use Rattle.neli_log.specs.Contents.{delivery_of}
use Rattle.neli_log.proofs.Stores.{mapped_taken}
use Rattle.neli_log.proofs.store.Store.drop_first.Goals as goal

pub returns-clause-taken : goal.returns-clause-taken
returns-clause-taken c = λ d ds h.
    let s = c.args.self.now in
    c.trim.ensures.same c.args.whose
    ∙ mapped_taken (delivery_of (span_bytes s.datagrams)) (items_of s.places c.args.whose)
    (items_of c.pass.new.self c.args.whose) d ds h c.pass.ensures.taken
