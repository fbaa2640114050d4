use Rattle.std.proofs.Common.{ℤ, subst, w32}
use Rattle.std.proofs.lemmas.Int.{to_z-of_z}
use Rattle.neli_c_parts.specs.DumpsHeld.{Finishes, end_wire}
use Rattle.neli_c.proofs.Opened.{carried}
use Rattle.neli_c.proofs.dump.neli_c_kernel_dump_finish.Goals as goal

pub returns-clause-open : goal.returns-clause-open
returns-clause-open c =
    let error = to_z-of_z w32 c.args.error (record { sfits = c.ranges.error.sfits }) in
    let put = subst (λ (n : ℤ). Finishes c.finish-code.result (end_wire c.args.flags n) c.args.ext_ack.now
    c.deref_mut.result.now c.finish-code.new.self) error (
      c.finish-code.ensures.again,
      λ is. (c.finish-code.ensures.put is, c.finish-code.ensures.finished is, c.finish-code.ensures.unfinished is),
    ) in
    carried (λ z. Finishes z (end_wire c.args.flags c.args.error) c.args.ext_ack.now) c.finish-code.result _ _ _
    c.deref_mut.result.now _ (record { sfits = c.finish-code.type_inv }) c.in-Some.ensures.taken
    c.deref_mut.ensures.value c.put.ensures put
