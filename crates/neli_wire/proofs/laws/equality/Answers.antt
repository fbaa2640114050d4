use Rattle.std.specs.Cmp.{unsigned_Decides}
use Rattle.neli_wire.proofs.laws.equality.Goals as goal

pub returns-clause-two_bytes : goal.returns-clause-two_bytes
returns-clause-two_bytes g = λ a b. unsigned_Decides a b

pub returns-clause-four_bytes : goal.returns-clause-four_bytes
returns-clause-four_bytes g = λ a b. unsigned_Decides a b

pub returns-clause-eight_bytes : goal.returns-clause-eight_bytes
returns-clause-eight_bytes g = λ a b. unsigned_Decides a b
