use Rattle.std.proofs.Common.{ℕ, List, sym, subst}
use Rattle.neli_util.proofs.GroupLemmas.{groups_of-positive}
use Rattle.neli_util.specs.Groups.{HasNoZero}
use Rattle.neli_util.proofs.groups.Groups.new_bitmask.Goals as goal

pub invariant_of-result : goal.invariant_of-result
invariant_of-result c =
    let P : List ℕ → Type 0 = HasNoZero in
    subst P (sym c.in_ok-numbers.ensures.value) (groups_of-positive c.args.mask)

pub returns-clause-no_zero : goal.returns-clause-no_zero
returns-clause-no_zero c =
    let P : List ℕ → Type 0 = HasNoZero in
    subst P (sym c.in_ok-numbers.ensures.value) (groups_of-positive c.args.mask)
