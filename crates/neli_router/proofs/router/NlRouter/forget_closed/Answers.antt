use Rattle.std.proofs.Common.{Some, is_some, rules}
use Rattle.std.proofs.lemmas.Fn.{filter_same}
use Rattle.neli_router.proofs.router.NlRouter.forget_closed.Goals as goal

pub returns-clause-given_up : goal.returns-clause-given_up
returns-clause-given_up g c =
    filter_same _ (λ r. is_some (g.D.Deliveries.pending c.args.self.now.deliveries (Some r.number))) _ (λ x b f' k. search rules) _ _
    c.retain.ensures.filtered
