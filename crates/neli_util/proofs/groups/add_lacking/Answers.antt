use Rattle.std.proofs.Common.{List, ℕ, get_or, take, [], ◌∷◌, sym, ap, ◌∙◌}
use Rattle.std.proofs.lemmas.List.{take_more}
use Rattle.neli_util.proofs.Lists.{has-at, lacking-some, with_added-then}
use Rattle.neli_util.specs.Groups.{has, with_added}
use Rattle.neli_util.proofs.groups.add_lacking.Goals as goal

pub returns-in-Err-clause-none_lacking : goal.returns-in-Err-clause-none_lacking
returns-in-Err-clause-none_lacking c none =
    let added : List ℕ = c.args.added.now in
    let i = c.loop-number.number-index in
    let n : ℕ = get_or added i 0 in
    let lacks = ap (λ xs. has xs n) (sym c.loop-number.invariant) ∙ c.in-Err.ensures.lacking in
    absurd (lacking-some added (take i added) c.args.list.now.items n
    (has-at added i c.loop-number-test.true) c.in-Err.ensures.above lacks none)

pub loop-number-preserved : goal.loop-number-preserved
loop-number-preserved c =
    let added : List ℕ = c.args.added.now in
    let groups : List ℕ = c.args.list.now.items in
    let i = c.loop-number.number-index in
    let n : ℕ = get_or added i 0 in
    let all = ap (λ xs. with_added xs groups) (take_more added i 0 c.loop-number-test.true)
    ∙ with_added-then (take i added) groups n in
    c.in_default.ensures.ok ∙ ap (with_added (n ∷ [])) c.loop-number.invariant ∙ sym all
