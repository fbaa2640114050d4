use Rattle.neli_print.specs.laws.Printed.{datagram_json-lines}
use Rattle.neli_print.proofs.laws.datagram_is_lines.Goals as goal

pub returns : goal.returns
returns c = datagram_json-lines
