use Rattle.std.proofs.Common.{◌≡◌, ℕ, ◌-◌, List, Some, sym, ap, ◌∙◌, false, nat_eq, arith, eq-eqb}
use Rattle.std.proofs.lemmas.Bool.{eqb-true}
use Rattle.neli_lent.specs.Attributes.{attribute_view}
use Rattle.neli_tables_walk.proofs.Neighbours.{attributes-more, attributes-none, not-true}
use Rattle.neli_tables_walk.proofs.Neighbours.{sought-here, sought-later, sought-none, sought-zero}
use Rattle.neli_tables_walk.proofs.chosen.beside.Goals as goal

pub returns-in_default : goal.returns-in_default
returns-in_default c =
    sym (c.loop-left.invariant ∙ sought-none c.loop-left.left c.args.number c.loop-left.cursor.rest
    (attributes-none _ _ c.in_default.ensures.refused))

pub returns-then-nla_type-number : goal.returns-then-nla_type-number
returns-then-nla_type-number c =
    let same : c.in-Ok.attr.kind.nla_type ≡ c.args.number = cc in
    let found = sought-here c.args.number c.loop-left.cursor.rest c.lend.new.cursor.rest
    (attribute_view c.in-Ok.attr) (attributes-more _ _ _ c.in-Ok.ensures.value) c.loop-left.left
    (omega arith) (eq-eqb _ _ same) in
    ap (λ (p : List ℕ). Some p) c.attr_payload.ensures ∙ sym (c.loop-left.invariant ∙ found)

pub loop-left-preserved : goal.loop-left-preserved
loop-left-preserved c =
    let same : c.nla_type.result.now ≡ c.in-Ok.attr.kind.nla_type = cc in
    let other : nat_eq c.in-Ok.attr.kind.nla_type c.args.number ≡ false =
    not-true _ (λ e. c.if-nla_type-number.false (same ∙ eqb-true _ _ e)) in
    c.loop-left.invariant ∙ sought-later c.args.number c.loop-left.cursor.rest
    c.lend.new.cursor.rest (attribute_view c.in-Ok.attr)
    (attributes-more _ _ _ c.in-Ok.ensures.value) c.loop-left.left
    (c.loop-left.left - 1) (omega arith) other

pub returns : goal.returns
returns c =
    sym (c.loop-left.invariant ∙ sought-zero c.args.number c.loop-left.cursor.rest c.loop-left.left
    (omega arith))
