use Rattle.std.proofs.Common.{rules, ◌≡◌, ℤ, w32, to_z, of_z, ap, ◌∙◌}
use Rattle.std.proofs.lemmas.Int.{to_z-of_z}
use Rattle.neli_msg.specs.Answers.{answer}
use Rattle.neli_msg.proofs.answer.answer_of.Goals as goal

pub returns : goal.returns
returns g c =
    let whole : to_z w32 (of_z w32 c.read_i32-error.result) ≡ c.read_i32-error.result = search (rules, to_z-of_z) in
    ap (λ (z : ℤ). answer z c.args.nlmsg c.args.ext_ack) (whole ∙ c.read_i32-error.ensures)
