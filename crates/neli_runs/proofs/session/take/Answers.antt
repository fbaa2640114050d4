use Rattle.std.proofs.Common.{◌≡◌, Some, None, arith, sym, ap, ◌∙◌}
use Rattle.std.specs.List.{slice_get}
use Rattle.std.proofs.lemmas.Grind.{common_steps}
use Rattle.std.proofs.lemmas.Option.{gets}
use Rattle.std.proofs.Math.ListN.{set}
use Rattle.neli_runs.proofs.Lists.{set_again}
use Rattle.neli_runs.proofs.session.take.Goals as goal

pub returns-clause-none : goal.returns-clause-none
returns-clause-none g c = λ none.
    let at : slice_get c.args.handles.now.items c.args.k ≡ Some c.index_mut.result.now =
    grind (arith, common_steps, gets, c.index_mut.ensures) in
    let empty : slice_get c.args.handles.now.items c.args.k ≡ Some None = at
    ∙ ap Some (sym c.replace.ensures.value ∙ none) in (
      ap (λ y. set c.args.handles.now.items c.args.k y) c.replace.ensures.after
          ∙ set_again c.args.handles.now.items None c.args.k empty,
      λ x e. let f = sym empty ∙ e in cc,
    )

pub returns-clause-some : goal.returns-clause-some
returns-clause-some g c = λ x is.
    let at : slice_get c.args.handles.now.items c.args.k ≡ Some c.index_mut.result.now =
    grind (arith, common_steps, gets, c.index_mut.ensures) in (
      at ∙ ap Some (sym c.replace.ensures.value ∙ is),
      ap
          (λ y. set c.args.handles.now.items c.args.k y) c.replace.ensures.after,
    )
