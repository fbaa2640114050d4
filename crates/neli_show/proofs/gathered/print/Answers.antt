use Rattle.std.proofs.Common.{rules, sym, ap, subst, ◌∙◌, []}
use Rattle.std.specs.Io.KnownBytes.{Appends, append_known}
use Rattle.std.proofs.KnownBytes.{Appends-of_writes}
use Rattle.std.proofs.Output.{if_some_weaken}
use Rattle.neli_show.specs.Gathered.{held}
use Rattle.neli_show.proofs.WrittenOut.{appends_gathered, on_ok_from}
use Rattle.neli_show.proofs.gathered.print.Goals as goal

pub returns : goal.returns
returns g c =
    let contents = g.W.Write.contents in
    let given = c.new-lines.ensures.writer in
    let back = c.into_inner.ensures in
    on_ok_from c.finish-out.result.1 _ _ c.finish-out.ensures.text (λ text.
    if_some_weaken (g.D.Display.output c.args.text) _ _
    (λ bs k.
    let (same, appended) = Appends-of_writes (λ s. s.out.ghost_name) (λ s. held contents s) _ bs _
    (k c.new-lines.ensures.plain (search rules)).wrote in
    let begun = subst (λ w. Appends (append_known (contents w.out.now) w.text.bytes) (held contents c.write.new.self.writer) bs) given appended in
    let out = subst (λ r. Appends (append_known (contents r.now) c.new.result.text.bytes) (held contents c.write.new.self.writer) bs) c.new.ensures.out begun in
    let none = subst (λ t. Appends (append_known (contents c.args.out.now) t) (held contents c.write.new.self.writer) bs) c.new.ensures.empty out in
    let name = c.finish-out.ensures.same ∙ ap (λ s. s.out.ghost_name) back ∙ same ∙ ap (λ s. s.out.ghost_name) given
    ∙ ap (λ r. r.ghost_name) c.new.ensures.out in
    let bytes = appends_gathered _ _ _ _ bs
    (subst (λ w. Appends (append_known (contents c.args.out.now) []) (held contents w) bs) (sym back) none) text in
    search rules)
    c.write.ensures.writes)
