use Rattle.neli_kernel.proofs.Acknowledged.{capped-delivered, error-delivered}
use Rattle.neli_kernel.proofs.laws.error_is_delivered.Goals as goal

pub returns-clause-capped : goal.returns-clause-capped
returns-clause-capped c = λ asked code attrs text bytes not fits back is.
    capped-delivered asked attrs text bytes back code not fits is

pub returns-clause-whole : goal.returns-clause-whole
returns-clause-whole c = error-delivered
