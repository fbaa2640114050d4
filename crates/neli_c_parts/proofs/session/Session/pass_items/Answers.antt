use Rattle.std.proofs.Common.{ap, refl, sym, ◌∙◌}
use Rattle.neli_router.specs.declared.handle.HandleState.{HandleState}
use Rattle.neli_c_parts.proofs.Aheads.{times-of}
use Rattle.neli_c_parts.proofs.FreePlaces.{put-back}
use Rattle.neli_c_parts.proofs.Replies.{of-value}
use Rattle.neli_c_parts.proofs.session.Session.pass_items.Goals as goal

pub returns-clause-some : goal.returns-clause-some
returns-clause-some c =
    let s = c.args.self.now in
    let h : HandleState = c.in-Some.reader in
    let after : HandleState = c.go_past_items.new.handle in
    let r = c.go_past_items.ensures in
    let out = ap (λ v. v.items) r.handles ∙ (c.in-Some.ensures.some refl).1 in
    let back = put-back s.handles.items _ s.freed c.go_past_items.new.self.freed c.args.k h after
    (sym c.in-Some.ensures.taken) out r.freed in
    of-value _ _ h c.in-Some.ensures.taken (
      after,
      refl,
      back.0,
      r.freed,
      back.1,
      r.held,
      times-of c.args.count h after _ _ _ _ refl refl r.passes,
    )
