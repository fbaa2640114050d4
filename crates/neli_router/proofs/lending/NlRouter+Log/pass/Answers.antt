use Rattle.std.proofs.Common.{◌≡◌, ◌∷◌, ◌∙◌, Some, subst}
use Rattle.neli_log.specs.Log.{pending_of}
use Rattle.neli_router.proofs.LentItems.{after_step, known_step, lent_first, steps_past}
use Rattle.neli_router.specs.Lending.{untyped}
use Rattle.neli_router.specs.Reads.{GoesPast}
use Rattle.neli_router.specs.Rule.{has_number}
use Rattle.neli_router.specs.Verdicts.{heard_of}
use Rattle.neli_router.specs.declared.handle.HandleState.{HandleState}
use Rattle.neli_router.proofs.lending.NlRouter+Log.pass.Goals as goal

pub drop_first-requires : goal.drop_first-requires
drop_first-requires g c =
    let f = lent_first (pending_of c.args.self.now.deliveries c.state-state.result.number) c.lend_first.result
    c.in-Some.delivery c.lend_first.ensures c.in-Some.is in
    (f.0, f.1, f.2)

pub returns-clause-passes : goal.returns-clause-passes
returns-clause-passes g c = λ open_ d ds waits.
    let s = c.state-state.result in
    let still : pending_of c.args.self.now.deliveries s.number ≡ Some (d ∷ ds) = rw c.state-state.ensures waits in
    let is = steps_past s (pending_of c.args.self.now.deliveries s.number) c.lend_first.result c.in-Some.delivery
    c.step_past-step.result d ds c.lend_first.ensures c.in-Some.is c.step_past-step.ensures still in
    subst (λ (h : HandleState). GoesPast (λ n. n) pending_of d ds (untyped d) h c.set_state-2.new.self c.args.self.now
    (record c.args.self.now { deliveries = c.drop_first.new.self; heard = c.hear.new.all })) c.state-state.ensures
    (record {
      waits = c.drop_first.ensures.taken d ds still;
      handle = after_step s c.set_state-2.new.self d c.step_past-step.result is
          (c.set_state-2.ensures ∙ c.state_after-after.ensures);
      heard = known_step c.step_past-step.result s.needs_ack (has_number s.number) s.single_given d
          (heard_of c.args.self.now.heard s.number) (heard_of c.hear.new.all s.number) is c.hear.ensures.heard;
    })
