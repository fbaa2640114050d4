use Rattle.neli_reader.specs.Answers.{answer}
use Rattle.neli_kernel_laws.proofs.Marked.{given-code, given-flags}
use Rattle.neli_kernel_laws.proofs.marks_are_given.Goals as goal

pub returns-clause-flags : goal.returns-clause-flags
returns-clause-flags g c = given-flags g.RT.Constant.wire_value g.RT.Constant.wire_number g.RP.FromBytesWithInput.view
    g.RP.Size.wire_length g.RP.FromBytesWithInput.read g.met.RT.Constant.back_to_number

pub returns-clause-code : goal.returns-clause-code
returns-clause-code g c = λ port us x m h code attrs gives is. given-code g.RT.Constant.wire_value
    g.RT.Constant.wire_number g.RP.FromBytesWithInput.view g.RP.Size.wire_length g.RP.FromBytesWithInput.read
    g.met.RT.Constant.back_to_number port us x m gives is h (answer code tt attrs)
