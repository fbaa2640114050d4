use Rattle.std.proofs.Common.{◌≡◌, [], ◌∷◌, ◌++◌, sym, ap, ◌∙◌, append_assoc}
use Rattle.neli_runs.proofs.Runs.{nothing-left}
use Rattle.neli_runs.proofs.whole_run.run.Goals as goal

pub loop-command-init : goal.loop-command-init
loop-command-init g c = record {
  all = c.into_iter-command-iterator.ensures.into_iter_gives.0;
  done = rw c.new-outcomes.ensures.items c.in_ok-open.ensures;
}

pub loop-command-preserved : goal.loop-command-preserved
loop-command-preserved g c = record {
  all = append_assoc c.loop-command.yielded (c.in-Some.command ∷ []) c.next.new.self.rest.items
      ∙ (ap (λ xs. c.loop-command.yielded ++ xs) (sym c.in-Some.ensures.steps.0) ∙ c.loop-command.invariant.all);
  done = rw c.in_ok-push.ensures.items (c.in_ok-outcome.ensures c.args.pid c.loop-command.yielded
      c.loop-command.outcomes.items c.loop-command.invariant.done);
}

pub returns-clause-sent : goal.returns-clause-sent
returns-clause-sent g c =
    let all : c.loop-command.yielded ≡ c.args.commands.items =
    nothing-left c.loop-command.yielded c.loop-command.command-iterator.rest.items c.args.commands.items
    (sym c.loop-command.command-iterator.rest.ok.0 ∙ c.in-None.ensures.steps.0) c.loop-command.invariant.all in
    rw (← all) c.loop-command.invariant.done.sent

pub returns-clause-read : goal.returns-clause-read
returns-clause-read g c =
    let all : c.loop-command.yielded ≡ c.args.commands.items =
    nothing-left c.loop-command.yielded c.loop-command.command-iterator.rest.items c.args.commands.items
    (sym c.loop-command.command-iterator.rest.ok.0 ∙ c.in-None.ensures.steps.0) c.loop-command.invariant.all in
    rw (← all) c.loop-command.invariant.done.answered
