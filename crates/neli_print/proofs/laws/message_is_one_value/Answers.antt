use Rattle.neli_print.specs.laws.Printed.{message_json-json}
use Rattle.neli_print.proofs.laws.message_is_one_value.Goals as goal

pub returns : goal.returns
returns c = message_json-json
