use Rattle.std.proofs.Common.{◌≡◌, ◌≤◌, ◌<◌, ◌-◌, ℕ, sym, ap, ◌∙◌, arith}
use Rattle.neli_tables_walk.specs.Elements.{element_view, elements_of}
use Rattle.neli_tables_walk.specs.Found.{containing, element_size}
use Rattle.neli_tables_walk.proofs.Lists.{shorter}
use Rattle.neli_tables_walk.proofs.Offsets.{containing-here, containing-later, containing-none}
use Rattle.neli_tables_walk.proofs.offset.element_at.Goals as goal

pub returns-then-offset-size : goal.returns-then-offset-size
returns-then-offset-size c =
    let e = element_view c.in-Ok.element in
    let same : c.element_size-size.result ≡ element_size e = c.element_size-size.ensures in
    let within : c.loop-element.offset < element_size e = omega
    (arith, same, c.if-offset-size.true) in
    sym (c.loop-element.invariant ∙ containing-here c.args.list.now.sort c.loop-element.rest.now
    c.in-Ok.later.now e c.in-Ok.ensures.value c.loop-element.offset within)

pub loop-element-smaller : goal.loop-element-smaller
loop-element-smaller c =
    let fewer = shorter c.args.list.now.sort c.loop-element.rest.now c.in-Ok.later.now
    (element_view c.in-Ok.element) c.in-Ok.ensures.value in
    omega (arith, fewer)

pub loop-element-preserved : goal.loop-element-preserved
loop-element-preserved c =
    let sort = c.args.list.now.sort in
    let e = element_view c.in-Ok.element in
    let same : c.element_size-size.result ≡ element_size e = c.element_size-size.ensures in
    let past : element_size e ≤ c.loop-element.offset = omega
    (arith, same, c.if-offset-size.false) in
    c.loop-element.invariant
    ∙ containing-later sort c.loop-element.rest.now c.in-Ok.later.now e c.in-Ok.ensures.value
    c.loop-element.offset past
    ∙ ap (λ (n : ℕ). containing (c.loop-element.offset - n) (elements_of sort c.in-Ok.later.now).0)
    (sym same)

pub returns : goal.returns
returns c =
    sym (c.loop-element.invariant ∙ containing-none c.args.list.now.sort c.loop-element.rest.now _
    c.loop-element.offset c.in_default.ensures.refused)
