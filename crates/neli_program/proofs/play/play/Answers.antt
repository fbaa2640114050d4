use Rattle.std.proofs.Common.{◌∙◌, List, map, Bor, ℕ, sym, ap}
use Rattle.std.proofs.lemmas.Bool.{eqb-true}
use Rattle.neli_program.proofs.Scripts.{next_of, none_next, played_all, played_bad, played_empty, played_line, played_none}
use Rattle.neli_program.proofs.play.play.Goals as goal

abbrev lent : List (Bor (List ℕ)) → List (List ℕ)
lent lines = map (λ (line : Bor (List ℕ)). line.now) lines

pub loop-index-init : goal.loop-index-init
loop-index-init g c = record {
  played = played_none c.args.script.now _ _ _ _ _ _ c.in_ok-playing.ensures.none;
  within = c.in_ok-playing.ensures.within;
}

pub loop-index-preserved-then-is_empty : goal.loop-index-preserved-then-is_empty
loop-index-preserved-then-is_empty g c =
    let at = next_of c.args.script.now c.deref-line-items.result.now c.loop-index.index _
    (ap lent c.deref-line-items.ensures.value ∙ c.in_ok-lines.ensures) c.loop-index-test.true in
    record {
      played = played_empty c.args.script.now c.loop-index.first c.loop-index.index _ _ _ _ _ _ _
          c.loop-index.invariant.played at (eqb-true _ _ (sym c.is_empty.ensures ∙ c.if-is_empty.true));
      within = c.loop-index.invariant.within;
    }

pub loop-index-preserved : goal.loop-index-preserved
loop-index-preserved g c =
    let at = next_of c.args.script.now c.deref-line-items.result.now c.loop-index.index _
    (ap lent c.deref-line-items.ensures.value ∙ c.in_ok-lines.ensures) c.loop-index-test.true in
    record {
      played = played_line c.args.script.now c.loop-index.first c.loop-index.index _ _ _ _ _ _ _ c.in-Ok.entry _ _ _ _ _ _
          c.loop-index.invariant.played at (sym c.is_empty.ensures ∙ c.if-is_empty.false) c.in-Ok.ensures
          c.in_ok-follow-in-Ok.ensures.follows;
      within = c.in_ok-follow-in-Ok.ensures.within;
    }

pub returns-in-Err-Bad-clause-bad : goal.returns-in-Err-Bad-clause-bad
returns-in-Err-Bad-clause-bad g c =
    let at = next_of c.args.script.now c.deref-line-items.result.now c.loop-index.index _
    (ap lent c.deref-line-items.ensures.value ∙ c.in_ok-lines.ensures) c.loop-index-test.true in
    played_bad c.args.script.now c.loop-index.first c.loop-index.index _ _ _ _ _ _ _ c.loop-index.invariant.played at
    (sym c.is_empty.ensures ∙ c.if-is_empty.false) (rw c.in-Err-Bad.field-0-is at c.in-Err-Bad.ensures)

pub returns-clause-text : goal.returns-clause-text
returns-clause-text g c =
    played_all c.args.script.now c.loop-index.first c.loop-index.index _ _ _ _ _ _ c.loop-index.invariant.played
    (none_next c.args.script.now c.deref-line-items.result.now c.loop-index.index
    (ap lent c.deref-line-items.ensures.value ∙ c.in_ok-lines.ensures) c.loop-index-test.false)
