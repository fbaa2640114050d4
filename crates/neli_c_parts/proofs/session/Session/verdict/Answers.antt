use Rattle.std.proofs.Common.{ap, w32, ◌∙◌}
use Rattle.std.proofs.lemmas.Int.{to_z-of_z}
use Rattle.neli_router.specs.declared.verdict.Heard.{Heard}
use Rattle.neli_router.specs.declared.verdict.Verdict.{Verdict}
use Rattle.std.specs.Prelude.{Option}
use Rattle.neli_c_parts.specs.Verdicts.{filtered_byte, verdict_code, verdict_error}
use Rattle.neli_c_parts.proofs.Hears.{filtered-settled, tells}
use Rattle.neli_c_parts.proofs.session.Session.verdict.Goals as goal

pub returns : goal.returns
returns c =
    tells _ _ c.filtered_byte.result c.args.k c.args.self.now c.in-Some.handle.now c.args.verdict.now
    (rw c.deref.ensures.value at c.in-Some.ensures)
    (to_z-of_z w32 c.of_verdict.result (record { sfits = c.of_verdict.type_inv })
    ∙ c.of_verdict.ensures ∙ ap (λ (v : Verdict). verdict_code v) c.verdict-stands.ensures)
    (to_z-of_z w32 c.verdict_error.result (record { sfits = c.verdict_error.type_inv })
    ∙ c.verdict_error.ensures ∙ ap (λ (v : Verdict). verdict_error v) c.verdict-stands.ensures)
    (c.filtered_byte.ensures ∙ (ap (λ (h : Option Heard). filtered_byte h) c.heard.ensures ∙ filtered-settled _))
