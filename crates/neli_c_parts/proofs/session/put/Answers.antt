use Rattle.std.proofs.Common.{List, ap, slice_get, sym, ◌∙◌}
use Rattle.neli_c_parts.specs.declared.session.Slot.{Slot}
use Rattle.neli_c_parts.specs.declared.session.Slot.TheVariants as slot
use Rattle.neli_c_parts.specs.Slots.{handle_at}
use Rattle.neli_c_parts.proofs.FreePlaces.{given-again, handle-pushed, none-past}
use Rattle.neli_c_parts.proofs.session.put.Goals as goal

pub returns-in-Some-clause-again : goal.returns-in-Some-clause-again
returns-in-Some-clause-again c = λ ks free.
    let slots = c.args.handles.now.items in
    let first = c.args.freed.now in
    let there = ap (λ (hs : List Slot). slice_get hs first) (sym c.deref.ensures.value) ∙ c.in-Some.ensures.some.1 in
    given-again slots first c.replace-k.result c.replace-k.new.dest c.in-Some.next ks
    (slot.Open c.args.handle) c.replace-k.ensures.value c.replace-k.ensures.after c.in-Some.ensures.some.0 there
    free

pub returns-in-Ok-clause-free : goal.returns-in-Ok-clause-free
returns-in-Ok-clause-free c = none-past c.args.handles.now.items c.len-k.result (c.len-k.ensures
    ∙ c.args.handles.now.ok.0)

pub returns-in-Ok-clause-handle : goal.returns-in-Ok-clause-handle
returns-in-Ok-clause-handle c =
    ap (λ (hs : List Slot). handle_at c.len-k.result hs) c.in-Ok.ensures.items
    ∙ handle-pushed c.args.handles.now.items c.len-k.result c.args.handle (c.len-k.ensures
    ∙ c.args.handles.now.ok.0)
