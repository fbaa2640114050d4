use Rattle.std.proofs.Common.{◌++◌, ◌∙◌, codes, rules}
use Rattle.std.proofs.Output.{has_written_append, has_written_of_eq}
use Rattle.neli_tables_walk.specs.FieldLists.{fields_json_by}
use Rattle.neli_tables_walk.specs.Plains.{item_json}
use Rattle.neli_tables_walk.proofs.ValueLists.{parts-after-done, parts-after-step}
use Rattle.neli_tables_walk.proofs.structures.StructuresJsonDisplay.fmt.Goals as goal

pub loop-bytes-preserved : goal.loop-bytes-preserved
loop-bytes-preserved g c =
    let f = fields_json_by item_json c.args.self.now.0.fields.table.now
    c.args.self.now.0.fields.place in
    let step = c.in-Some.ensures.steps in (
      search rules,
      step.0 ∙ c.loop-bytes.invariant.1,
      λ plain.
          let i = c.loop-bytes.invariant.2 plain in (
            i.0 ++ (c.loop-bytes.comma.now ++ f c.in-Some.bytes.now),
            has_written_append _ _ _ _ _ _ i.1 (search rules),
            parts-after-step f (codes ",") c.loop-bytes.comma.now c.args.self.now.0.size _ _ _ _
                i.0 _ c.loop-bytes.invariant.1 step.1.0 step.1.1 step.1.2 i.2,
          ),
    )

pub returns-clause-writes : goal.returns-clause-writes
returns-clause-writes g c = λ plain _.
    let i = c.loop-bytes.invariant.2 plain in
    has_written_of_eq _ _ _ _ _
    (parts-after-done
    (fields_json_by item_json c.args.self.now.0.fields.table.now c.args.self.now.0.fields.place)
    (codes ",") c.loop-bytes.comma.now c.args.self.now.0.size _ i.0 _
    c.in-None.ensures.steps.1.0 i.2)
    i.1
