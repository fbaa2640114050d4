use Rattle.neli_c_parts.specs.DumpsHeld.{HandsOut}
use Rattle.neli_c.proofs.Opened.{carried}
use Rattle.neli_c.proofs.dump.neli_c_kernel_dump_next.Goals as goal

pub returns-clause-open : goal.returns-clause-open
returns-clause-open c =
    carried (λ z s t. HandsOut z s t c.args.out.now c.next-code.new.out c.args.size.now c.next-code.new.size)
    c.next-code.result _ _ _ c.deref_mut.result.now _ (record { sfits = c.next-code.type_inv })
    c.in-Some.ensures.taken c.deref_mut.ensures.value c.put.ensures c.next-code.ensures
