use Rattle.std.proofs.Common.{Some, refl}
use Rattle.neli_log.proofs.Waits.{eqb_refl}
use Rattle.neli_log.proofs.staging.is_received.Goals as goal

pub returns-in-Number : goal.returns-in-Number
returns-in-Number c =
    let n = c.in-Number.field-0 in
    ((λ _. (Some n, c.requires n c.in-Number.is, rw c.in-Number.is (eqb_refl n))), (λ _. refl))
