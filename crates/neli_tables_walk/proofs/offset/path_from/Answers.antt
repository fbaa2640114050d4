use Rattle.std.proofs.Common.{◌≡◌, ◌+◌, ◌++◌, ◌∷◌, [], List, length, Some, None, true, false}
use Rattle.std.proofs.Common.{sym, ap, subst, ◌∙◌, arith, rules, refl}
use Rattle.std.proofs.lemmas.Bool.{eqb-true}
use Rattle.neli_tables_walk.specs.declared.context.Context.{Context}
use Rattle.neli_tables_walk.specs.declared.item.Step.{Step}
use Rattle.neli_tables_walk.specs.declared.level.Level.{Level}
use Rattle.neli_tables_walk.specs.Found.{place_view, some_steps, step_at}
use Rattle.neli_tables_walk.specs.Shapes.{context_view, onto}
use Rattle.neli_tables_walk.proofs.Offsets.{Follows, follows-full, follows-last, follows-more}
use Rattle.neli_tables_walk.proofs.Offsets.{follows-none, room-left}
use Rattle.neli_tables_walk.proofs.offset.path_from.Goals as goal

pub returns-in_default : goal.returns-in_default
returns-in_default c =
    let at = c.loop-levels in
    let open_yet : c.is_full.result ≡ false = search rules in
    let room = room-left (length at.steps.items) c.is_full.result c.is_full.ensures.value open_yet
    c.is_full.ensures.fits in
    let is = c.in_default.is in
    let none : c.step_at.result ≡ None = cc in
    let seen = c.step_at.ensures
    ∙ ap (λ (x : Context). step_at (context_view x) (onto at.levels.open.items [])
    (place_view at.place))
    at.invariant.0 in
    c.some_path.ensures ∙ ap some_steps (follows-none (context_view c.args.context)
    (place_view c.args.place) at.steps.items at.levels.open.items (place_view at.place)
    c.step_at.result at.invariant.2 room seen none)

pub returns-in_default-inner : goal.returns-in_default-inner
returns-in_default-inner c =
    let at = c.loop-levels in
    let open_yet : c.is_full.result ≡ false = search rules in
    let room = room-left (length at.steps.items) c.is_full.result c.is_full.ensures.value open_yet
    c.is_full.ensures.fits in
    let is = c.in-Some.is in
    let inner = c.in_default-inner.is in
    let last : c.step_at.result ≡ Some (c.in-Some.step, None) = cc in
    let seen = c.step_at.ensures
    ∙ ap (λ (x : Context). step_at (context_view x) (onto at.levels.open.items [])
    (place_view at.place))
    at.invariant.0 in
    c.some_path-in_default-inner.ensures ∙ ap some_steps (c.push.ensures.items
    ∙ follows-last (context_view c.args.context) (place_view c.args.place) at.steps.items
    at.levels.open.items (place_view at.place) c.step_at.result at.invariant.2 room seen
    c.in-Some.step last)

pub loop-levels-preserved : goal.loop-levels-preserved
loop-levels-preserved c =
    let at = c.loop-levels in
    let open_yet : c.is_full.result ≡ false = search rules in
    let room = room-left (length at.steps.items) c.is_full.result c.is_full.ensures.value open_yet
    c.is_full.ensures.fits in
    let is = c.in-Some.is in
    let inner = c.in-Some-inner.is in
    let more : c.step_at.result ≡ Some (c.in-Some.step, Some c.in-Some-inner.next) = cc in
    let seen = c.step_at.ensures
    ∙ ap (λ (x : Context). step_at (context_view x) (onto at.levels.open.items [])
    (place_view at.place))
    at.invariant.0 in
    let steps_len : length c.push.new.self.items ≡ length at.steps.items + 1 = c.push.ensures.len in
    let open_len : length c.push-in-loop-levels.new.self.items ≡ length at.levels.open.items + 1 =
    c.push-in-loop-levels.ensures.len in
    let same : length at.levels.open.items ≡ length at.steps.items = at.invariant.1 in
    let start = place_view c.args.place in (
      at.invariant.0,
      omega (arith, steps_len, open_len, same),
      subst (λ (steps : List Step). Follows (context_view c.args.context) start steps
          c.push-in-loop-levels.new.self.items (place_view c.in-Some-inner.next))
          (sym c.push.ensures.items)
          (subst (λ (levels : List Level). Follows (context_view c.args.context) start
          (at.steps.items ++ c.in-Some.step ∷ []) levels (place_view c.in-Some-inner.next))
          (sym c.push-in-loop-levels.ensures.items)
          (follows-more (context_view c.args.context) start at.steps.items at.levels.open.items
          (place_view at.place) c.step_at.result at.invariant.2 room seen c.in-Some.step
          c.in-Some-inner.next _ more refl)),
    )

pub returns : goal.returns
returns c =
    let at = c.loop-levels in
    let yes : c.is_full.result ≡ true = search rules in
    let full : length at.steps.items ≡ 10 = eqb-true _ _ (sym c.is_full.ensures.value ∙ yes) in
    c.some_path-2.ensures ∙ ap some_steps (follows-full (context_view c.args.context)
    (place_view c.args.place) at.steps.items at.levels.open.items (place_view at.place)
    at.invariant.2 full)
