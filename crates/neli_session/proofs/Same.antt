-- What is the same after one call is the same after two.
use Rattle.std.proofs.Common.{refl, ◌∙◌}
use Rattle.neli_session.specs.declared.session.Session.{Session}
use Rattle.neli_session.specs.Sends.{SameSending}

pub same-at-first : (s : Session) → SameSending s s
same-at-first s = ((refl, refl, refl), (refl, refl, refl), refl, refl)

pub same-again : (s t u : Session) → SameSending s t → SameSending t u → SameSending s u
same-again s t u one two = (
  (two.0.0 ∙ one.0.0, two.0.1 ∙ one.0.1, two.0.2 ∙ one.0.2),
  (two.1.0 ∙ one.1.0, two.1.1 ∙ one.1.1, two.1.2 ∙ one.1.2),
  two.2 ∙ one.2,
  two.3 ∙ one.3,
)
