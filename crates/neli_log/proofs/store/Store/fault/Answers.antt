use Rattle.std.proofs.Common.{◌∙◌, ◌++◌, ◌∷◌, [], ap, arith, option_map, refl, sym}
use Rattle.neli_deliveries.specs.declared.delivery.Delivery.TheVariants as delivery
use Rattle.neli_log.specs.declared.entry.Entry.{Entry}
use Rattle.neli_log.specs.declared.entry.Route.TheVariants as route
use Rattle.neli_log.specs.declared.content.Content.{Content}
use Rattle.neli_log.specs.declared.content.Content.TheVariants as content
use Rattle.neli_log.specs.Places.{HasReader, entries_of, pending_of}
use Rattle.neli_log.specs.Routes.{items_for}
use Rattle.neli_log.specs.Spans.{span_bytes}
use Rattle.neli_log.specs.Contents.{delivery_of}
use Rattle.neli_log.proofs.Entries.{each_one}
use Rattle.neli_log.proofs.Stores.{blocked_brings, fault_backed, fault_pending, keeps_none, mapped_nothing}
use Rattle.neli_log.proofs.Stores.{unread_brings}
use Rattle.neli_log.proofs.store.Store.fault.Goals as goal

pub returns-then-would_block-clause-ok : goal.returns-then-would_block-clause-ok
returns-then-would_block-clause-ok c = λ w.
    let s = c.args.self.now in
    mapped_nothing (delivery_of (span_bytes s.datagrams))
    (pending_of s.places w) _ (λ _. blocked_brings w c.args.error (sym c.would_block.ensures
    ∙ c.if-would_block.true))

pub returns-then-not-has_reader-clause-ok : goal.returns-then-not-has_reader-clause-ok
returns-then-not-has_reader-clause-ok c = λ w.
    let s = c.args.self.now in
    mapped_nothing (delivery_of (span_bytes s.datagrams))
    (pending_of s.places w) _ (unread_brings (pending_of s.places) w c.args.error
    (λ r. (let yes = c.has_reader.ensures.1 r in let no = c.if-not-has_reader.true in cc)))

pub returns-clause-ok : goal.returns-clause-ok
returns-clause-ok c = λ w.
    let s = c.args.self.now in
    let e : Entry Content = record { item = content.Fault c.in_ok-fault.fault; route = route.Numbers } in
    fault_pending (span_bytes s.datagrams) w (content.Fault c.in_ok-fault.fault) c.args.error (pending_of s.places w)
    (pending_of c.push.new.self w) (ap (λ x. delivery.Fault x) c.in_ok-fault.ensures.ok)
    (sym c.would_block.ensures ∙ c.if-would_block.false)
    (c.push.ensures.more w ∙ ap (option_map (λ xs. xs ++ items_for w (e ∷ []))) (c.in_ok-reserve.ensures.same w))

pub returns-clause-log : goal.returns-clause-log
returns-clause-log c =
    let s = c.args.self.now in
    let e : Entry Content = record { item = content.Fault c.in_ok-fault.fault; route = route.Numbers } in
    record {
      trimmed = c.push.ensures.trimmed;
      backed = fault_backed s.datagrams (entries_of s.places) (entries_of c.push.new.self)
          (content.Fault c.in_ok-fault.fault) refl (c.push.ensures.entries ∙ ap (λ es. es ++ e ∷ []) c.in_ok-reserve.ensures.entries) c.requires.backed;
    }

pub returns-then-would_block-clause-kept : goal.returns-then-would_block-clause-kept
returns-then-would_block-clause-kept c = ([], keeps_none c.args.self.now [])

pub returns-then-not-has_reader-clause-kept : goal.returns-then-not-has_reader-clause-kept
returns-then-not-has_reader-clause-kept c = ([], keeps_none c.args.self.now [])

pub returns-clause-kept : goal.returns-clause-kept
returns-clause-kept c =
    let s = c.args.self.now in
    let e : Entry Content = record { item = content.Fault c.in_ok-fault.fault; route = route.Numbers } in (
      e ∷ [],
      record {
        entries = c.push.ensures.entries ∙ ap (λ es. es ++ e ∷ []) c.in_ok-reserve.ensures.entries;
        readers = each_one (λ x. HasReader (pending_of s.places) x.route) e
            (c.has_reader.ensures.0 (let yes = c.if-not-has_reader.false in cc));
        counted = omega arith;
      },
    )
