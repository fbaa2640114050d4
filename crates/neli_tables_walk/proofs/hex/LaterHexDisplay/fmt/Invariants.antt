use Rattle.std.proofs.Common.{take}
use Rattle.std.specs.Fmt.{HasWritten, IsPlainFormatter}
use Rattle.neli_tables_walk.specs.Hex.{later_hex_text}
use Rattle.neli_tables_walk.proofs.hex.LaterHexDisplay.fmt.Given as goal

-- the digits of the bytes so far are written
abbrev pub invariant-loop-byte : goal.invariant-loop-byte
invariant-loop-byte g l =
    IsPlainFormatter l.initial.f
    → HasWritten g.W.Write.write_str_gives l.initial.f (later_hex_text
    (take l.byte-index l.fn.self.0.now)) l.f
