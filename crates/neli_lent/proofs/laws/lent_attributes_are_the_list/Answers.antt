use Rattle.neli_lent.proofs.Lists.{list-read, list-refused}
use Rattle.neli_lent.proofs.laws.lent_attributes_are_the_list.Goals as goal

pub returns-clause-read : goal.returns-clause-read
returns-clause-read g c = list-read g.K.Constant.wire_value

pub returns-clause-refused : goal.returns-clause-refused
returns-clause-refused g c = list-refused g.K.Constant.wire_value
