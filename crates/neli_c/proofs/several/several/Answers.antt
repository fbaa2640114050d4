use Rattle.std.proofs.Common.{◌≡◌, ◌∙◌, arith, sym, of_z, to_z, w32}
use Rattle.std.proofs.lemmas.Int.{to_z-of_z}
use Rattle.neli_c_parts.specs.Several.{StepOf}
use Rattle.neli_c_parts.proofs.Steps.{first-code, none-given, some-there}
use Rattle.neli_c.proofs.several.several.Goals as goal

pub returns-then-given-gt0-clause-code : goal.returns-then-given-gt0-clause-code
returns-then-given-gt0-clause-code g c =
    let r = c.fill-given in
    let code_at = g.T.Walked.code_at c.args.bytes.now in
    first-code (StepOf code_at (g.T.Walked.Gives c.args.bytes.now)) code_at (λ w v a step. step.0) _ _ r.new.items
    r.result.0 _ c.if-given-gt0.true r.ensures.within r.auto.items r.ensures.given

pub returns-else-is_empty-clause-code : goal.returns-else-is_empty-clause-code
returns-else-is_empty-clause-code g c =
    let r = c.fill-given in
    let code_at = g.T.Walked.code_at c.args.bytes.now in
    let code : to_z w32 (of_z w32 r.result.1) ≡ r.result.1 =
    to_z-of_z w32 r.result.1 (record { sfits = r.type_inv.1.1.1.0.1 }) in
    let some = some-there _ _ (sym c.is_empty.ensures ∙ c.if-is_empty.false) r.auto.items in
    code ∙ none-given (StepOf code_at (g.T.Walked.Gives c.args.bytes.now)) code_at _ _ r.new.items r.result.0 _ _
    (omega (arith, c.if-given-gt0.false)) some r.ensures.given r.ensures.full (λ ne. (r.ensures.stopped ne).1)
