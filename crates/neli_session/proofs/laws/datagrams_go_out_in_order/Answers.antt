use Rattle.neli_session.proofs.Turns.{in-order}
use Rattle.neli_session.proofs.laws.datagrams_go_out_in_order.Goals as goal

pub returns : goal.returns
returns c = in-order
