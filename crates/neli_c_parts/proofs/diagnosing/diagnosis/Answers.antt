use Rattle.std.proofs.Common.{ℤ, sym, subst, w32}
use Rattle.std.proofs.lemmas.Int.{to_z-of_z}
use Rattle.neli_tables_walk.specs.Bodies.{BodySeen, body_view}
use Rattle.neli_c_parts.specs.AnswersShown.{payload_view}
use Rattle.neli_c_parts.specs.Diagnosed.{Diagnoses, diagnosis_text}
use Rattle.neli_c_parts.specs.Printed.{IsPrinted}
use Rattle.neli_c_parts.proofs.Explained.{explained}
use Rattle.neli_c_parts.proofs.diagnosing.diagnosis.Goals as goal

pub returns-in-Some : goal.returns-in-Some
returns-in-Some c =
    let code = c.print_diagnosis.result in let body = body_view c.in-Some.body in
    let ext_ack = c.args.ext_ack.now in
    subst (λ (z : ℤ). Diagnoses z c.args.protocol c.args.message.now
    (payload_view c.args.bytes.now c.args.message.now) c.args.error ext_ack c.args.families.now c.args.out.now
    c.print_diagnosis.new.out c.args.size.now c.print_diagnosis.new.size)
    (sym (to_z-of_z w32 code (record { sfits = c.print_diagnosis.type_inv })))
    (explained _ _ body (λ (b : BodySeen). diagnosis_text b c.args.error ext_ack) code c.args.out.now
    c.print_diagnosis.new.out c.args.size.now c.print_diagnosis.new.size c.in-Some.ensures
    (subst (λ (e : ℤ). IsPrinted code (diagnosis_text body e ext_ack) c.args.out.now c.print_diagnosis.new.out
    c.args.size.now c.print_diagnosis.new.size)
    (to_z-of_z w32 c.args.error (record { sfits = c.ranges.error.sfits })) c.print_diagnosis.ensures))
