use Rattle.neli_wire.specs.laws.Lists.{elements-are, are-elements, elements-refusal, elements-stuck}
use Rattle.neli_wire.proofs.laws.list_is_its_elements.Goals as goal

pub returns-clause-read : goal.returns-clause-read
returns-clause-read g c = elements-are g.T.FromBytes.read g.met.T.FromBytes.local

pub returns-clause-spelled : goal.returns-clause-spelled
returns-clause-spelled g c = are-elements g.T.FromBytes.read

pub returns-clause-refused : goal.returns-clause-refused
returns-clause-refused g c = elements-refusal g.T.FromBytes.read

pub returns-clause-stuck : goal.returns-clause-stuck
returns-clause-stuck g c = elements-stuck g.T.FromBytes.read
