use Rattle.std.proofs.Common.{◌≤◌, length, arith}
use Rattle.neli_payloads.proofs.Inline.{held_in_zeros}
use Rattle.neli_payloads.proofs.hardware_address.HardwareAddress.from_bytes.Goals as goal

pub invariant_of-result : goal.invariant_of-result
invariant_of-result c =
    let most : length c.args.bytes.now ≤ 32 = omega (arith, c.if-count-gt-MOST.false) in
    rw (c.copy_from_slice.ensures.after) (held_in_zeros c.args.bytes.now most)
