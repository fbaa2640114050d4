use Rattle.std.proofs.Common.{◌≡◌, ◌∙◌, ◌++◌, ◌<◌, ◌∷◌, ◌+◌, [], suc, ap, arith, length, map, sym, take}
use Rattle.std.proofs.lemmas.List.{length-map, take_all, take_more}
use Rattle.neli_tables.specs.FoundRows.{size_before, sizes_of}
use Rattle.neli_tables.specs.Lines.{line_view}
use Rattle.neli_tables.proofs.PassedRows.{length-sizes}
use Rattle.neli_tables.proofs.table.all_sizes.Goals as goal

pub loop-place-preserved : goal.loop-place-preserved
loop-place-preserved c =
    let lines = map line_view c.args.lines.now in
    let at = c.loop-place.place in
    let within : at < length lines = omega (arith, c.loop-place-test.true, length-map c.args.lines.now line_view) in
    let next : suc at ≡ at + 1 = omega arith in (
      c.in_ok-push.ensures.items
          ∙ ap (λ ns. ns ++ c.size_at-size.result ∷ []) c.loop-place.invariant.0
          ∙ ap (λ n. take at (sizes_of lines) ++ n ∷ []) c.size_at-size.ensures
          ∙ sym (take_more (sizes_of lines) at 0 (omega (arith, within, length-sizes lines))),
      c.size_at-size.ensures ∙ ap (size_before lines) next,
    )

pub returns : goal.returns
returns c =
    let lines = map line_view c.args.lines.now in
    c.loop-place.invariant.0
    ∙ take_all _ (sizes_of lines) (omega (arith, c.loop-place-test.false, length-sizes lines, length-map c.args.lines.now line_view))
