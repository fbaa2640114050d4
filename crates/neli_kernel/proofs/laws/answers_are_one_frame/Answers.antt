use Rattle.std.proofs.Common.{arith}
use Rattle.neli_kernel.specs.Answers.{acknowledgement, capped_error, error}
use Rattle.neli_kernel.proofs.Answers.{one-answer}
use Rattle.neli_kernel.proofs.laws.answers_are_one_frame.Goals as goal

pub returns-clause-acknowledgement : goal.returns-clause-acknowledgement
returns-clause-acknowledgement c = λ asked attrs bytes addressed h. one-answer asked 256 attrs
    (acknowledgement asked attrs).payload bytes (omega arith) addressed h

pub returns-clause-capped_error : goal.returns-clause-capped_error
returns-clause-capped_error c = λ asked code attrs bytes addressed h. one-answer asked 256 attrs
    (capped_error asked code attrs).payload bytes (omega arith) addressed h

pub returns-clause-error : goal.returns-clause-error
returns-clause-error c = λ asked code attrs bytes addressed h. one-answer asked 0 attrs
    (error asked code attrs).payload bytes (omega arith) addressed h
