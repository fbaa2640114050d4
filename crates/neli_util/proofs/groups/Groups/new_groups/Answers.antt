use Rattle.std.proofs.Common.{◌≡◌, ℕ, List, ltb, sym, ap, ◌∙◌, subst, arith, rules}
use Rattle.std.proofs.lemmas.Bool.Decides.{nat_tests}
use Rattle.std.proofs.lemmas.Fn.{filter_same}
use Rattle.neli_util.proofs.GroupLemmas.{without_zeros-positive}
use Rattle.neli_util.specs.Groups.{without_zeros, HasNoZero}
use Rattle.neli_util.proofs.groups.Groups.new_groups.Goals as goal

pub invariant_of-result : goal.invariant_of-result
invariant_of-result c =
    let kept : c.retain.new.self.items ≡ without_zeros c.args.groups.now =
    filter_same _ (λ n. ltb 0 n) _ (λ x b f' k. (
      grind (arith, nat_tests, k),
      search rules,
    )) _ _ c.retain.ensures.filtered ∙ ap without_zeros c.in_ok-numbers.ensures.value in
    let P : List ℕ → Type 0 = HasNoZero in
    subst P (sym kept) (without_zeros-positive c.args.groups.now)

pub returns-clause-value : goal.returns-clause-value
returns-clause-value c =
    filter_same _ (λ n. ltb 0 n) _ (λ x b f' k. (
      grind (arith, nat_tests, k),
      search rules,
    )) _ _ c.retain.ensures.filtered ∙ ap without_zeros c.in_ok-numbers.ensures.value

pub returns-clause-no_zero : goal.returns-clause-no_zero
returns-clause-no_zero c =
    let kept : c.retain.new.self.items ≡ without_zeros c.args.groups.now =
    filter_same _ (λ n. ltb 0 n) _ (λ x b f' k. (
      grind (arith, nat_tests, k),
      search rules,
    )) _ _ c.retain.ensures.filtered ∙ ap without_zeros c.in_ok-numbers.ensures.value in
    let P : List ℕ → Type 0 = HasNoZero in
    subst P (sym kept) (without_zeros-positive c.args.groups.now)
