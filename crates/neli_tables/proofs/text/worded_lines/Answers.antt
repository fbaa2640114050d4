use Rattle.std.proofs.Common.{Bor, List, ℕ, ◌∙◌, sym, arith}
use Rattle.std.proofs.lemmas.List.{length-map, map-append}
use Rattle.std.proofs.lemmas.Bool.{eqb-true, eqb-false}
use Rattle.neli_tables.proofs.Texts.{pass_wordless, pass_worded}
use Rattle.neli_tables.proofs.text.worded_lines.Goals as goal

pub loop-index-preserved-then-is_empty : goal.loop-index-preserved-then-is_empty
loop-index-preserved-then-is_empty c =
    pass_wordless _ _ c.deref-line-items.result.now c.loop-index.index _ _ c.loop-index.invariant
    c.loop-index-test.true (sym c.in_ok-words.ensures)
    (let none = eqb-true _ _ (sym c.is_empty.ensures ∙ c.if-is_empty.true) in
    omega (arith, length-map c.in_ok-words.words.items (λ (w : Bor (List ℕ)). w.now), c.in_ok-words.words.ok.0, none))

pub loop-index-preserved : goal.loop-index-preserved
loop-index-preserved c =
    rw (c.in_ok-push.ensures.items, map-append) (pass_worded _ _ c.deref-line-items.result.now c.loop-index.index _ _
    c.loop-index.invariant c.loop-index-test.true (sym c.in_ok-words.ensures)
    (let some = eqb-false _ _ (sym c.is_empty.ensures ∙ c.if-is_empty.false) in
    omega (arith, length-map c.in_ok-words.words.items (λ (w : Bor (List ℕ)). w.now), c.in_ok-words.words.ok.0, some)))
