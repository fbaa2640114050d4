use Rattle.std.proofs.Common.{◌≡◌, ℕ, List, [], ◌++◌, ◌∙◌, ap, rules}
use Rattle.std.specs.List.{flat_map}
use Rattle.std.specs.Slice.Iter.{chunks_rest}
use Rattle.std.proofs.Output.{has_written_append, has_written_of_eq}
use Rattle.neli_tables_walk.specs.Structures.{in_brackets}
use Rattle.neli_tables_walk.specs.Lists.{parts_of}
use Rattle.neli_tables_walk.proofs.ValueLists.{parts-flat-done, parts-flat-step}
use Rattle.neli_tables_walk.proofs.structures.StructuresTextDisplay.fmt.Goals as goal

pub loop-bytes-init : goal.loop-bytes-init
loop-bytes-init g c =
    let rest : chunks_rest c.into_iter-bytes-iterator.result ≡ c.args.self.now.0.fields.bytes.now =
    search rules in
    let f = in_brackets c.args.self.now.0.fields.table.now c.args.self.now.0.fields.place in (
      search rules,
      λ plain. (
        [],
        search rules,
        ap (λ (r : List ℕ). flat_map f
            (parts_of c.args.self.now.0.size r)) rest,
      ),
    )

pub loop-bytes-preserved : goal.loop-bytes-preserved
loop-bytes-preserved g c =
    let f = in_brackets c.args.self.now.0.fields.table.now c.args.self.now.0.fields.place in
    let step = c.in-Some.ensures.steps in (
      step.0 ∙ c.loop-bytes.invariant.0,
      λ plain.
          let i = c.loop-bytes.invariant.1 plain in (
            i.0 ++ f c.in-Some.bytes.now,
            has_written_append _ _ _ _ _ _ i.1 (search rules),
            parts-flat-step f c.args.self.now.0.size _ _ _ _ i.0 _ c.loop-bytes.invariant.0
                step.1.0 step.1.1 step.1.2 i.2,
          ),
    )

pub returns-clause-writes : goal.returns-clause-writes
returns-clause-writes g c = λ plain _.
    let i = c.loop-bytes.invariant.1 plain in
    has_written_of_eq _ _ _ _ _
    (parts-flat-done (in_brackets c.args.self.now.0.fields.table.now c.args.self.now.0.fields.place)
    c.args.self.now.0.size _ i.0 _ c.in-None.ensures.steps.1.0 i.2)
    i.1
