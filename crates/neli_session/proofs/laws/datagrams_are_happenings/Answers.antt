use Rattle.neli_session.proofs.AllRead.{messages-happen}
use Rattle.neli_session.proofs.laws.datagrams_are_happenings.Goals as goal

pub returns : goal.returns
returns c = messages-happen
