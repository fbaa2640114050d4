use Rattle.neli_payloads.specs.laws.HardwareText.{hardware_text-back}
use Rattle.neli_payloads.proofs.laws.hardware_text_is_read_back.Goals as goal

pub returns : goal.returns
returns c = hardware_text-back
