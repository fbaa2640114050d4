use Rattle.std.proofs.Common.{ℤ, sym, subst, w32}
use Rattle.std.proofs.lemmas.Int.{to_z-of_z}
use Rattle.neli_tables_check.specs.declared.validation.Validation.{Validation}
use Rattle.neli_tables_check.specs.Violations.{violation_by, violation_in}
use Rattle.neli_tables_walk.specs.Bodies.{body_view}
use Rattle.neli_c_parts.specs.AnswersShown.{payload_view}
use Rattle.neli_c_parts.specs.Named.{Checks, PrintsWrong}
use Rattle.neli_c_parts.proofs.Explained.{checked-in}
use Rattle.neli_c_parts.proofs.naming.check_message.Goals as goal

pub returns-in-Some-clause-checked : goal.returns-in-Some-clause-checked
returns-in-Some-clause-checked c =
    let code = c.check_body.result in let body = body_view c.in-Some.body in
    let payload = payload_view c.args.bytes.now c.args.message.now in
    subst (λ (z : ℤ). Checks z c.args.protocol c.args.message.now payload c.args.families.now c.args.out.now
    c.check_body.new.out c.check_body.new.size) (sym (to_z-of_z w32 code (record { sfits = c.check_body.type_inv })))
    (checked-in c.args.families.now c.args.protocol c.args.message.now payload body violation_in code c.args.out.now
    c.check_body.new.out c.check_body.new.size c.in-Some.ensures
    (λ ne.
    subst (λ (v : Validation). PrintsWrong code body.0 (violation_by v body) c.args.out.now
    c.check_body.new.out c.check_body.new.size) c.validation_of.ensures (c.check_body.ensures.checked ne)))
