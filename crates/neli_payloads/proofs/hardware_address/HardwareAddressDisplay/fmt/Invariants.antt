use Rattle.std.proofs.Common.{◌∷◌, get_or, take}
use Rattle.std.specs.Fmt.{HasWritten, IsPlainFormatter}
use Rattle.neli_payloads.specs.HardwareAddress.{hardware_text}
use Rattle.neli_payloads.proofs.hardware_address.HardwareAddressDisplay.fmt.Given as goal

-- the output so far is the text of the bytes so far
abbrev pub invariant-loop-byte : goal.invariant-loop-byte
invariant-loop-byte g l =
    IsPlainFormatter l.fn.f → HasWritten g.W.Write.write_str_gives l.fn.f
    (hardware_text (get_or l.self 0 0 ∷ take l.byte-index l.rest)) l.f
