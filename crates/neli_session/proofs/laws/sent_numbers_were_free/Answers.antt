use Rattle.neli_session.proofs.Numbers.{sent-free}
use Rattle.neli_session.proofs.laws.sent_numbers_were_free.Goals as goal

pub returns : goal.returns
returns c = sent-free
