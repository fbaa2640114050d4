use Rattle.std.proofs.Common.{◌∙◌, Option, ap, refl, subst, sym, w32}
use Rattle.std.proofs.lemmas.Int.{to_z-of_z}
use Rattle.std.specs.Prelude.{IfSome, IsSome}
use Rattle.neli_consts_system.specs.NlFamily.{nl_family_of}
use Rattle.neli_consts_system.specs.declared.socket.NlFamily.{NlFamily}
use Rattle.neli_session.specs.declared.session.Session.{Session}
use Rattle.neli_c_session.specs.Calls.{IsNew, is_set}
use Rattle.neli_c.proofs.session.neli_c_session_new.Goals as goal

pub returns-in-Ok-clause-new : goal.returns-in-Ok-clause-new
returns-in-Ok-clause-new c = λ ok.
    let keeps = is_set c.args.keeps_unasked in
    let family = c.from.ensures
    ∙ ap nl_family_of (to_z-of_z w32 c.args.protocol (record { sfits = c.ranges.protocol.sfits })) in
    let opened = subst (λ (f : NlFamily). IsNew f c.args.port keeps c.opened-held.result) family
    c.opened-held.ensures in
    let held = subst (λ (s : Session). IsNew (nl_family_of c.args.protocol) c.args.port keeps s)
    (sym c.in-Ok.ensures.ok) opened in
    subst (λ (o : Option Session). IsSome o × IfSome o (IsNew (nl_family_of c.args.protocol) c.args.port keeps))
    (sym c.put-in-Ok.ensures) (refl, held)
