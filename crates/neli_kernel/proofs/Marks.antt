-- The marks of a dump's messages.
use Rattle.std.proofs.Common.{[], ◌∷◌, refl, ap, ◌∙◌}
use Rattle.std.specs.Prelude.{◌==◌, ℕ, bit_or}
use Rattle.std.proofs.lemmas.Nat.{and_or_apart}
use Rattle.neli_consts.specs.declared.nlm_f.NlmF.{NlmF}
use Rattle.neli_reader.specs.Answers.{Attributes}
use Rattle.neli_kernel.specs.Answers.{answer_flags}
use Rattle.neli_kernel.specs.Dumps.{with_multi}
use Rattle.neli_kernel.specs.Marks.{HasMarksOf}

pub multi-marks : (flags : NlmF) → HasMarksOf flags (with_multi flags)
multi-marks flags = (
  ap (λ (n : ℕ). n == 16) (and_or_apart 16 flags.0 2 refl),
  ap (λ (n : ℕ). n == 32) (and_or_apart 32 flags.0 2 refl),
)

pub end-marks : (flags : NlmF) (attrs : Attributes) → HasMarksOf flags (answer_flags (with_multi flags) attrs)
end-marks flags [] = multi-marks flags
end-marks flags (a ∷ attrs) = (
  ap (λ (n : ℕ). n == 16) (and_or_apart 16 (bit_or flags.0 2) 512 refl) ∙ (multi-marks flags).0,
  ap (λ (n : ℕ). n == 32) (and_or_apart 32 (bit_or flags.0 2) 512 refl) ∙ (multi-marks flags).1,
)
