use Rattle.neli_session.proofs.Numbers.{numbers-stay}
use Rattle.neli_session.proofs.laws.numbers_stay_in_use.Goals as goal

pub returns : goal.returns
returns c = numbers-stay
