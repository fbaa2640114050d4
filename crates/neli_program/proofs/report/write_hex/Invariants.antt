use Rattle.std.proofs.Common.{take}
use Rattle.std.specs.Io.KnownBytes.{Appends}
use Rattle.hex.specs.Hex.{encode_lower}
use Rattle.neli_program.proofs.report.write_hex.Given as goal

-- the bytes passed are written
abbrev pub invariant-loop-byte : goal.invariant-loop-byte
invariant-loop-byte g l =
    Appends (g.W.Write.contents l.fn.output) (g.W.Write.contents l.output) (encode_lower (take l.byte-index l.bytes))
