use Rattle.std.proofs.Common.{refl, sym, ◌∙◌}
use Rattle.neli_c_parts.proofs.Aheads.{stays-by}
use Rattle.neli_c_parts.proofs.session.Session.is_past.Goals as goal

pub returns : goal.returns
returns c = λ yes.
    let h = c.args.handle.now in
    stays-by h c.args.self.now c.lend_next.result h.ended refl (sym c.is_rest.ensures ∙ yes)
    c.lend_next.ensures.closed c.lend_next.ensures.lends
