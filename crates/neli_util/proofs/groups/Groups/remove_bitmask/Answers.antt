use Rattle.std.proofs.Common.{◌≡◌, ℕ, ◌<◌, List, not, sym, ap, ◌∙◌, subst, arith, rules}
use Rattle.std.specs.List.{filter}
use Rattle.std.proofs.lemmas.Fn.{filter_same}
use Rattle.std.proofs.lemmas.List.Elements.{All-filter}
use Rattle.neli_util.proofs.GroupLemmas.{without-masked}
use Rattle.neli_util.specs.Groups.{without, HasNoZero}
use Rattle.neli_util.specs.Masks.{groups_of, is_masked}
use Rattle.neli_util.proofs.groups.Groups.remove_bitmask.Goals as goal

pub invariant_of-self : goal.invariant_of-self
invariant_of-self c =
    let kept : c.retain.new.self.items ≡ filter (λ n. not (is_masked c.args.mask n)) c.self.inside.numbers.items =
    filter_same _ (λ n. not (is_masked c.args.mask n)) _ (λ x b f' k. search rules) _ _ c.retain.ensures.filtered in
    let P : List ℕ → Type 0 = HasNoZero in
    subst P (sym kept) (All-filter (λ n. not (is_masked c.args.mask n))
    (λ n. 0 < n) c.self.inside.numbers.items c.self.invariant)

pub returns-clause-value : goal.returns-clause-value
returns-clause-value c =
    let kept : c.retain.new.self.items ≡ filter (λ n. not (is_masked c.args.mask n)) c.self.inside.numbers.items =
    filter_same _ (λ n. not (is_masked c.args.mask n)) _ (λ x b f' k. search rules) _ _ c.retain.ensures.filtered in
    kept ∙ without-masked c.args.mask c.self.inside.numbers.items (omega arith)
    ∙ ap (without (groups_of c.args.mask)) c.self.view_is

pub returns-clause-no_zero : goal.returns-clause-no_zero
returns-clause-no_zero c =
    let kept : c.retain.new.self.items ≡ filter (λ n. not (is_masked c.args.mask n)) c.self.inside.numbers.items =
    filter_same _ (λ n. not (is_masked c.args.mask n)) _ (λ x b f' k. search rules) _ _ c.retain.ensures.filtered in
    let P : List ℕ → Type 0 = HasNoZero in
    subst P (sym kept) (All-filter (λ n. not (is_masked c.args.mask n))
    (λ n. 0 < n) c.self.inside.numbers.items c.self.invariant)
