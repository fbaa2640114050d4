use Rattle.std.proofs.Common.{◌≡◌, ℕ, ◌<◌, List, not, sym, ap, ◌∙◌, subst, rules}
use Rattle.std.proofs.lemmas.Fn.{filter_same}
use Rattle.std.proofs.lemmas.List.Elements.{All-filter}
use Rattle.neli_util.specs.Groups.{has, without, HasNoZero}
use Rattle.neli_util.proofs.groups.Groups.remove_groups.Goals as goal

pub invariant_of-self : goal.invariant_of-self
invariant_of-self c =
    let kept : c.retain.new.self.items ≡ without c.args.groups.now c.self.inside.numbers.items =
    filter_same _ (λ n. not (has c.args.groups.now n)) _ (λ x b f' k. search rules) _ _ c.retain.ensures.filtered in
    let P : List ℕ → Type 0 = HasNoZero in
    subst P (sym kept) (All-filter (λ n. not (has c.args.groups.now n))
    (λ n. 0 < n) c.self.inside.numbers.items c.self.invariant)

pub returns-clause-value : goal.returns-clause-value
returns-clause-value c =
    let kept : c.retain.new.self.items ≡ without c.args.groups.now c.self.inside.numbers.items =
    filter_same _ (λ n. not (has c.args.groups.now n)) _ (λ x b f' k. search rules) _ _ c.retain.ensures.filtered in
    kept ∙ ap (without c.args.groups.now) c.self.view_is

pub returns-clause-no_zero : goal.returns-clause-no_zero
returns-clause-no_zero c =
    let kept : c.retain.new.self.items ≡ without c.args.groups.now c.self.inside.numbers.items =
    filter_same _ (λ n. not (has c.args.groups.now n)) _ (λ x b f' k. search rules) _ _ c.retain.ensures.filtered in
    let P : List ℕ → Type 0 = HasNoZero in
    subst P (sym kept) (All-filter (λ n. not (has c.args.groups.now n))
    (λ n. 0 < n) c.self.inside.numbers.items c.self.invariant)
