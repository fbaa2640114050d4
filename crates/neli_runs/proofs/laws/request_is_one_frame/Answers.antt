use Rattle.neli_runs.proofs.Requests.{one-request}
use Rattle.neli_runs.proofs.laws.request_is_one_frame.Goals as goal

pub returns : goal.returns
returns g c = one-request g.ST.Constant.wire_number g.SP.ToBytes.wire g.SP.Size.wire_length g.met.SP.ToBytes.length_is
