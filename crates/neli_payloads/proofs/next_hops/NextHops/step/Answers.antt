use Rattle.std.proofs.Common.{rules, ◌≡◌, ◌≢◌, ℕ, List, [], Some, ◌∙◌, sym, ap, length, true, false}
use Rattle.std.proofs.lemmas.Bool.{eqb-true}
use Rattle.neli_wire.specs.declared.errors.DeError.{DeError}
use Rattle.neli_wire.specs.Place.{Place, whole}
use Rattle.neli_wire.specs.Reading.{refusal_within}
use Rattle.neli_reader.specs.laws.Cuts.{drop_whole, empty_is}
use Rattle.neli_payloads.proofs.Walks.{hops-end, hops-hop, hops-fault, hop-longer}
use Rattle.neli_payloads.proofs.next_hops.NextHops.step.Goals as goal

pub returns-then-is_empty-clause-cut : goal.returns-then-is_empty-clause-cut
returns-then-is_empty-clause-cut c =
    let none : length c.rest.result.now ≡ 0 = eqb-true _ _ (sym c.is_empty.ensures ∙ c.if-is_empty.true) in
    let nothing : c.args.self.now.rest ≡ [] = ap (λ (p : Place). p.rest) (sym c.self.view_is) ∙ sym c.rest.ensures
    ∙ empty_is c.rest.result.now none in
    hops-end c.args.self.now nothing

pub returns-then-is_empty-clause-end : goal.returns-then-is_empty-clause-end
returns-then-is_empty-clause-end c = λ _. returns-then-is_empty-clause-cut c

pub returns-in-Ok-clause-cut : goal.returns-in-Ok-clause-cut
returns-in-Ok-clause-cut c =
    hops-hop c.args.self.now c.lend.new.cursor _ (rw c.self.view_is at c.in-Ok.ensures.value)
    (rw c.self.view_is at c.in-Ok.ensures.moved)

pub returns-in-Ok-clause-shorter : goal.returns-in-Ok-clause-shorter
returns-in-Ok-clause-shorter c =
    hop-longer _ _ _ (rw c.self.view_is at c.in-Ok.ensures.value)

pub returns-in-Err-clause-cut : goal.returns-in-Err-clause-cut
returns-in-Err-clause-cut c =
    let none : (true ≡ false → c.args.self.now.rest ≡ []) × (c.args.self.now.rest ≡ [] → true ≡ false) = search rules in
    let any : c.args.self.now.rest ≢ [] = λ e. let f = none.1 e in cc in
    let bytes : c.get_ref-end.result.now ≡ whole c.args.self.now = c.get_ref-end.ensures
    ∙ ap whole (c.in-Err.ensures.unchanged ∙ c.self.view_is) in
    let fault = c.within_input.ensures ∙ ap (λ (s : List ℕ). refusal_within (length s) c.in-Err.error) bytes in
    hops-fault c.args.self.now c.in-Err.error any (rw c.self.view_is at c.in-Err.ensures.refused)
    ∙ ap (λ (e : DeError). ([], Some e)) (sym fault)

-- the cursor stands after the last byte
pub returns-in-Err-clause-fault : goal.returns-in-Err-clause-fault
returns-in-Err-clause-fault c =
    hops-end c.set_position.new.self (c.set_position.ensures.rest
    ∙ (rw (← c.get_ref-end.ensures) (drop_whole c.get_ref-end.result.now)))
