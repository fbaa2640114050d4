use Rattle.neli_kernel.proofs.Marks.{end-marks, multi-marks}
use Rattle.neli_kernel.proofs.laws.dump_keeps_its_marks.Goals as goal

pub returns-clause-message : goal.returns-clause-message
returns-clause-message g c = λ asked t flags body. multi-marks flags

pub returns-clause-end : goal.returns-clause-end
returns-clause-end g c = λ asked flags code attrs. end-marks flags attrs
