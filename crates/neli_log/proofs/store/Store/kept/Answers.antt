use Rattle.neli_log.specs.Places.{pending_of}
use Rattle.neli_log.specs.Spans.{span_bytes}
use Rattle.neli_log.specs.Contents.{delivery_of}
use Rattle.neli_log.proofs.Stores.{mapped_empty}
use Rattle.neli_log.proofs.store.Store.kept.Goals as goal

pub returns-clause-none : goal.returns-clause-none
returns-clause-none c =
    let s = c.args.self.now in
    let all = mapped_empty (delivery_of (span_bytes s.datagrams)) (pending_of s.places) in
    ((λ none. all.0 (c.len.ensures.none.0 none)), (λ empty. c.len.ensures.none.1 (all.1 empty)))
