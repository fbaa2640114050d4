-- The handle of a request, by how its flags say that it is answered.
use Rattle.std.specs.Prelude.{◌≡◌, ℕ, Bool, true, false, not, ◌&&◌, ◌==◌, bit_and, if◌then◌else◌, Some, refl}
use Rattle.std.proofs.Common.{ap}
use Rattle.neli_consts.specs.declared.nlm_f.NlmF.{NlmF}
use Rattle.neli_answers.specs.Answers.{answering_by_flags}
use Rattle.neli_answers.specs.declared.answering.Answering.TheVariants as answered
use Rattle.neli_router.specs.Rule.{awaits, needs_ack}
use Rattle.neli_router.specs.Sends.{asks, expects}
use Rattle.neli_router.specs.declared.handle.HandleState.{HandleState}

awaits_by : (dump ack : Bool)
    → awaits (if dump then answered.Dump else (if ack then answered.Acknowledgement else answered.Reply))
    ≡ (ack && not dump)
awaits_by true true = refl
awaits_by true false = refl
awaits_by false true = refl
awaits_by false false = refl

-- an acknowledgement ends it where the flags request one
pub awaits_by_flags : (flags : NlmF) → awaits (answering_by_flags flags) ≡ needs_ack flags
awaits_by_flags flags = awaits_by (bit_and flags.0 768 == 768) (bit_and flags.0 4 == 4)

-- so the handle is the same
abbrev handle_needing : ℕ → Bool → HandleState
handle_needing number needs =
    record { number = Some number; needs_ack = needs; single_given = false; ended = false }

pub expects_by_flags : (number : ℕ) (flags : NlmF) → expects number (answering_by_flags flags) ≡ asks number flags
expects_by_flags number flags =
    ap (λ (b : Bool). handle_needing number b) (awaits_by_flags flags)
