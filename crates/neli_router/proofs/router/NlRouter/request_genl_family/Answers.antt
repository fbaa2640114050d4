use Rattle.std.proofs.Common.{arith, rules}
use Rattle.neli_router.proofs.Families.{family_sent-body}
use Rattle.neli_router.proofs.router.NlRouter.request_genl_family.Goals as goal

pub returns-clause-bytes : goal.returns-clause-bytes
returns-clause-bytes g c =
    rw (family_sent-body _ _ _ c.args.name.now (omega arith)) (search rules)
