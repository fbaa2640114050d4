use Rattle.neli_c_parts.specs.DumpsHeld.{PutsMessage, dump_wire}
use Rattle.neli_c.proofs.Opened.{carried}
use Rattle.neli_c.proofs.dump.neli_c_kernel_dump_push.Goals as goal

pub returns-clause-open : goal.returns-clause-open
returns-clause-open c =
    carried (λ z. PutsMessage z (dump_wire c.args.nl_type c.args.flags c.args.body.now)) c.push-code.result _ _ _
    c.deref_mut.result.now _ (record { sfits = c.push-code.type_inv }) c.in-Some.ensures.taken
    c.deref_mut.ensures.value c.put.ensures c.push-code.ensures
