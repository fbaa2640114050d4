use Rattle.std.proofs.Common.{arith, rules, false, get_or, ◌-◌, ◌^◌, []}
use Rattle.std.specs.Fmt.{digits, format_spec, padded_integral}
use Rattle.std.specs.Io.KnownBytes.{Appends}
use Rattle.neli_program.proofs.Hex.{hex_more, hex_none}
use Rattle.neli_program.proofs.report.write_hex.Goals as goal

pub loop-byte-init : goal.loop-byte-init
loop-byte-init g c = hex_none _

pub loop-byte-preserved : goal.loop-byte-preserved
loop-byte-preserved g c =
    let byte = get_or c.args.bytes.now c.loop-byte.byte-index 0 in
    let one : Appends (g.W.Write.contents c.loop-byte.output) (g.W.Write.contents c.write.new.self)
    (padded_integral (format_spec 32 0 4 2 (2 ^ 64 - 1)) false [] (digits 16 false byte)) = search rules in
    hex_more _ _ _ c.args.bytes.now c.loop-byte.byte-index c.loop-byte-test.true
    (omega (arith, c.type_inv.bytes c.loop-byte.byte-index)) c.loop-byte.invariant one
