use Rattle.neli_kernel.proofs.Acknowledged.{acknowledgement-delivered}
use Rattle.neli_kernel.proofs.laws.acknowledgement_is_delivered.Goals as goal

pub returns-clause-one_message : goal.returns-clause-one_message
returns-clause-one_message c = λ asked attrs text bytes back is.
    (acknowledgement-delivered asked attrs text bytes back is).one_message

pub returns-clause-asker : goal.returns-clause-asker
returns-clause-asker c = λ asked attrs text bytes back is.
    (acknowledgement-delivered asked attrs text bytes back is).asker

pub returns-clause-others : goal.returns-clause-others
returns-clause-others c = λ asked attrs text bytes back is.
    (acknowledgement-delivered asked attrs text bytes back is).others
