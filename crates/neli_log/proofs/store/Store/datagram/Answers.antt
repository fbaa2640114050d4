use Rattle.std.proofs.Common.{◌≡◌, ◌∙◌, ℕ, Bool, List, [], ap, length, map, arith, refl, subst, sym}
use Rattle.std.proofs.lemmas.Bool.{eqb-true}
use Rattle.std.proofs.lemmas.List.{nil_from_length}
use Rattle.neli_reader.specs.Agreement.{untyped_layout}
use Rattle.neli_reader.specs.Cuts.{cut_of}
use Rattle.neli_reader.specs.laws.Cuts.{empty_is}
use Rattle.neli_deliveries.specs.declared.delivery.Delivery.{Delivery}
use Rattle.neli_deliveries.specs.Deliveries.{datagram_share}
use Rattle.neli_log.specs.declared.entry.Entry.{Entry}
use Rattle.neli_log.specs.Places.{pending_of as items_of}
use Rattle.neli_log.specs.Spans.{span_bytes}
use Rattle.neli_log.specs.Contents.{delivery_of, entry_read, part_of}
use Rattle.neli_log.specs.Log.{pending_of, share_of}
use Rattle.neli_log.specs.Routed.{AreAwaited, datagram_routed, is_open}
use Rattle.neli_log.specs.Staged.{deliveries_added, entries_due}
use Rattle.neli_log.proofs.Routed.{routed_nothing}
use Rattle.neli_log.proofs.Stages.{staged_each, staged_gains}
use Rattle.neli_log.proofs.Stores.{awaited_open, due_same, keeps_none, keeps_once_none, mapped_more}
use Rattle.neli_log.proofs.Stores.{mapped_nothing}
use Rattle.neli_log.proofs.Stores.{on_ok, received_nothing, share_same}
use Rattle.neli_log.proofs.store.Store.datagram.Goals as goal

pub returns-then-is_empty-clause-ok : goal.returns-then-is_empty-clause-ok
returns-then-is_empty-clause-ok c = λ w.
    let s = c.args.self.now in
    let opened : ℕ → Bool = is_open (pending_of s) in
    let none : c.args.bytes.now ≡ [] = empty_is c.args.bytes.now
    (eqb-true _ _ (sym c.is_empty.ensures ∙ c.if-is_empty.true)) in
    mapped_nothing (delivery_of (span_bytes s.datagrams)) (items_of s.places w) _
    (λ _. subst (λ b. [] ≡ datagram_share s.port opened w (cut_of untyped_layout b) c.args.groups.now) (sym none)
    (received_nothing s.port opened w c.args.groups.now))

pub returns-then-is_empty-2-clause-ok : goal.returns-then-is_empty-2-clause-ok
returns-then-is_empty-2-clause-ok c = λ w.
    let s = c.args.self.now in
    let P = items_of s.places in
    let bytes = c.args.bytes.now in
    let cut = cut_of untyped_layout bytes in
    let es = c.in_ok-entries.entries.items in
    let len : c.in_ok-entries.entries.len ≡ 0 = eqb-true _ _ (sym c.is_empty-2.ensures ∙ c.if-is_empty-2.true) in
    let none : es ≡ [] = nil_from_length es (omega (arith, len, c.in_ok-entries.entries.ok.0)) in
    mapped_nothing (delivery_of (span_bytes s.datagrams)) (P w) _
    (λ opened. ap (deliveries_added bytes w) (sym none)
    ∙ (staged_gains P s.port c.next_serial-serial.result bytes c.args.groups.now cut es
    (length bytes) c.in_ok-entries.ensures w opened ∙ share_same s w c.args.groups.now cut))

pub returns-clause-ok : goal.returns-clause-ok
returns-clause-ok c =
    let s = c.args.self.now in
    let P = items_of s.places in
    let bytes = c.args.bytes.now in
    let cut = cut_of untyped_layout bytes in
    let es = c.in_ok-entries.entries.items in
    on_ok c.hand_over.result _ _
    (λ h w. h w ∙ mapped_more (delivery_of (span_bytes s.datagrams)) (P w) (deliveries_added bytes w es)
    (share_of s bytes c.args.groups.now w)
    (λ opened. staged_gains P s.port c.next_serial-serial.result bytes c.args.groups.now cut es
    (length bytes) c.in_ok-entries.ensures w opened ∙ share_same s w c.args.groups.now cut)) c.hand_over.ensures.ok

pub returns-then-is_empty-clause-kept : goal.returns-then-is_empty-clause-kept
returns-then-is_empty-clause-kept c = ([], keeps_none c.args.self.now c.args.bytes.now)

pub returns-then-is_empty-2-clause-kept : goal.returns-then-is_empty-2-clause-kept
returns-then-is_empty-2-clause-kept c = ([], keeps_none c.args.self.now c.args.bytes.now)

pub returns-clause-kept : goal.returns-clause-kept
returns-clause-kept c = on_ok c.hand_over.result _ _ (λ kept. (
  c.in_ok-entries.entries.items,
  kept,
)) c.hand_over.ensures.kept

pub returns-then-is_empty-clause-once : goal.returns-then-is_empty-clause-once
returns-then-is_empty-clause-once c =
    let s = c.args.self.now in
    let opened : ℕ → Bool = is_open (pending_of s) in
    let none : c.args.bytes.now ≡ [] = empty_is c.args.bytes.now
    (eqb-true _ _ (sym c.is_empty.ensures ∙ c.if-is_empty.true)) in
    let nothing : datagram_routed s.port opened c.args.groups.now (cut_of untyped_layout c.args.bytes.now) ≡ [] =
    ap (λ b. datagram_routed s.port opened c.args.groups.now (cut_of untyped_layout b)) none
    ∙ routed_nothing s.port opened c.args.groups.now in
    keeps_once_none s _ (subst (λ ds. AreAwaited (items_of s.places) ds []) (sym nothing) refl)

pub returns-then-is_empty-2-clause-once : goal.returns-then-is_empty-2-clause-once
returns-then-is_empty-2-clause-once c =
    let s = c.args.self.now in
    let P = items_of s.places in
    let bytes = c.args.bytes.now in
    let cut = cut_of untyped_layout bytes in
    let es = c.in_ok-entries.entries.items in
    let len : c.in_ok-entries.entries.len ≡ 0 = eqb-true _ _ (sym c.is_empty-2.ensures ∙ c.if-is_empty-2.true) in
    let none : es ≡ [] = nil_from_length es (omega (arith, len, c.in_ok-entries.entries.ok.0)) in
    let each = staged_each P s.port c.next_serial-serial.result bytes c.args.groups.now cut es
    (length bytes) c.in_ok-entries.ensures in
    keeps_once_none s _ (subst (λ ds. AreAwaited P ds []) (due_same s c.args.groups.now cut)
    (subst (λ xs. AreAwaited P (entries_due s.port P c.args.groups.now cut) (map (entry_read (part_of bytes)) xs))
    none each))

pub returns-clause-once : goal.returns-clause-once
returns-clause-once c =
    let s = c.args.self.now in
    let P = items_of s.places in
    let bytes = c.args.bytes.now in
    let cut = cut_of untyped_layout bytes in
    let es = c.in_ok-entries.entries.items in
    let added : List (Entry Delivery) = map (entry_read (part_of bytes)) es in
    let each = staged_each P s.port c.next_serial-serial.result bytes c.args.groups.now cut es
    (length bytes) c.in_ok-entries.ensures in
    on_ok c.hand_over.result _ _ (λ read. (
      added,
      awaited_open s _ added (subst (λ ds. AreAwaited P ds added) (due_same s c.args.groups.now cut) each),
      read,
    )) c.hand_over.ensures.read
