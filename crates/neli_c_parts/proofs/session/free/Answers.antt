use Rattle.std.proofs.Common.{◌≡◌, List, refl, subst, sym}
use Rattle.neli_c_parts.specs.declared.session.Slot.{Slot}
use Rattle.neli_c_parts.specs.declared.session.Slot.TheVariants as slot
use Rattle.neli_c_parts.specs.Slots.{AreFree}
use Rattle.neli_c_parts.proofs.FreePlaces.{free-read, freed-first}
use Rattle.neli_c_parts.proofs.session.free.Goals.{else-k-ne0, then-k-ne0}
use Rattle.neli_c_parts.proofs.session.free.Goals as goal

pub returns-clause-first : goal.returns-clause-first
returns-clause-first c = λ _ some ks free.
    let first : c.if-k-ne0.freed ≡ c.args.k = elim c.if-k-ne0.branch [
      | then-k-ne0 w ↦ w.freed-is
      | else-k-ne0 w ↦ absurd
          (some w.if-k-ne0.false)
    ] in
    let taken = c.in-Some.ensures.some refl in
    freed-first c.args.handles.now.items c.take.new.handles.items c.args.freed.now c.if-k-ne0.freed ks c.args.k
    c.in-Some.handle first some taken.1 taken.0 (sym c.in-Some.ensures.taken) free

pub returns-clause-multicast : goal.returns-clause-multicast
returns-clause-multicast c = λ _ none ks free.
    let first : c.if-k-ne0.freed ≡ c.args.freed.now = elim c.if-k-ne0.branch [
      | then-k-ne0 w ↦ absurd
          (w.if-k-ne0.true none)
      | else-k-ne0 w ↦ w.freed-is
    ] in
    let taken = c.in-Some.ensures.some refl in
    let slots = c.args.handles.now.items in
    let all = free-read slots c.args.freed.now ks c.args.k c.in-Some.handle (slot.Free c.args.freed.now)
    (sym c.in-Some.ensures.taken) free in
    subst (λ (f : _). AreFree c.take.new.handles.items f ks) (sym first)
    (subst (λ (hs : List Slot). AreFree hs c.args.freed.now ks) (sym taken.1) all)
