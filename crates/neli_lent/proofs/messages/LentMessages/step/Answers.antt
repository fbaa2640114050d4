use Rattle.std.proofs.Common.{rules, ◌≡◌, ◌≢◌, [], ◌∙◌, sym, length, true, false}
use Rattle.std.proofs.lemmas.Bool.{eqb-true}
use Rattle.neli_reader.specs.laws.Cuts.{drop_whole, empty_is}
use Rattle.neli_lent.proofs.Walks.{messages-end, messages-message, messages-fault}
use Rattle.neli_lent.proofs.messages.LentMessages.step.Goals as goal

pub returns-then-is_empty-clause-cut : goal.returns-then-is_empty-clause-cut
returns-then-is_empty-clause-cut g c =
    let none : length c.rest.result.now ≡ 0 = eqb-true _ _ (sym c.is_empty.ensures ∙ c.if-is_empty.true) in
    messages-end g.T.Constant.wire_value c.args.self.now (sym c.self.view_is ∙ sym c.rest.ensures
    ∙ empty_is c.rest.result.now none)

pub returns-then-is_empty-clause-end : goal.returns-then-is_empty-clause-end
returns-then-is_empty-clause-end g c = λ _. returns-then-is_empty-clause-cut g c

pub returns-in-Ok-clause-cut : goal.returns-in-Ok-clause-cut
returns-in-Ok-clause-cut g c =
    messages-message g.T.Constant.wire_value _ _ _ (rw c.self.view_is at c.in-Ok.ensures.value)

pub returns-in-Err-clause-cut : goal.returns-in-Err-clause-cut
returns-in-Err-clause-cut g c =
    let none : (true ≡ false → c.args.self.now ≡ []) × (c.args.self.now ≡ [] → true ≡ false) = search rules in
    let any : c.args.self.now ≢ [] = λ e. let f = none.1 e in cc in
    messages-fault g.T.Constant.wire_value _ _ any (rw c.self.view_is at c.in-Err.ensures.refused)

-- the cursor stands after the last byte
pub returns-in-Err-clause-fault : goal.returns-in-Err-clause-fault
returns-in-Err-clause-fault g c =
    messages-end g.T.Constant.wire_value _ (c.set_position.ensures.rest
    ∙ (rw (← c.get_ref-end.ensures) (drop_whole c.get_ref-end.result.now)))
