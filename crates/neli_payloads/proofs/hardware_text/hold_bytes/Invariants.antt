use Rattle.std.proofs.Common.{◌≡◌, ◌++◌, ◌-◌, length, take}
use Rattle.std.specs.Prelude.{option_map}
use Rattle.neli_payloads.specs.HardwareText.{bytes_of_text}
use Rattle.neli_payloads.proofs.hardware_text.hold_bytes.Given as goal

-- the bytes so far stand before those of the rest
abbrev pub invariant-loop-count : goal.invariant-loop-count
invariant-loop-count l =
    (bytes_of_text 32 l.text ≡ option_map (λ bs. take l.count l.held ++ bs) (bytes_of_text (32 - l.count) l.rest))
    × (length l.held ≡ 32)
