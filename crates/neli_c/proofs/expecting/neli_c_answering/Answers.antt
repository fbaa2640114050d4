use Rattle.std.proofs.Common.{rules, w32}
use Rattle.std.proofs.lemmas.Int.{to_z-of_z}
use Rattle.neli_c.proofs.expecting.neli_c_answering.Goals as goal

-- the number of the protocol is an i32
pub returns : goal.returns
returns c =
    let same = to_z-of_z w32 c.args.protocol (record { sfits = c.ranges.protocol.sfits }) in
    search (same, rules)
