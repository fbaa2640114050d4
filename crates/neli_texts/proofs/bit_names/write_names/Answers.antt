use Rattle.std.proofs.Common.{rules, ◌≡◌, ◌++◌, map, sym}
use mathlib.Core.Path.{subst}
use Rattle.std.proofs.Output.{has_written_append, has_written_of_eq}
use Rattle.std.specs.Fmt.{HasWritten, digits}
use Rattle.std.specs.Prelude.{codes, false}
use Rattle.neli_texts.specs.FlagNames.{barred, mark, names_in}
use Rattle.neli_texts.proofs.Names.{at_end, end_step, left_step, named_at, none_step, passed_at}
use Rattle.neli_texts.proofs.bit_names.write_names.Goals as goal
use Rattle.neli_texts.proofs.bit_names.write_names.Goals.{then-is_next+in_ok-write, else-is_next, then-left-ne0-via-then-left-ne0, then-left-ne0-via-else-left-ne0+then-is_first}

pub loop-row-preserved : goal.loop-row-preserved
loop-row-preserved g c = λ plain.
    let i = c.loop-row.invariant plain in
    elim c.if-is_next.branch [
      | then-is_next+in_ok-write w ↦ (
        i.0 ++ (mark c.loop-row.is_first ++ (g.R.NamedBits.row_of c.row-item.result).0),
        subst
            (λ f. HasWritten g.W.Write.write_str_gives c.args.f.now
            (i.0 ++ (mark c.loop-row.is_first ++ (g.R.NamedBits.row_of c.row-item.result).0)) f)
            (sym w.f-is) (has_written_append _ _ _ _ _ _ i.1 (search rules)),
        named_at c.args.rows.now g.R.NamedBits.row_of c.loop-row.row-index c.row-item.result c.row-item.result
            c.loop-row-test.true c.row-item.is i.0 _ c.loop-row.is_first c.if-is_next.is_first c.args.set
            c.loop-row.left c.if-is_next.left (search rules) w.is_first-is (search rules) i.2,
      )
      | else-is_next w ↦ (
        i.0,
        subst (λ f. HasWritten g.W.Write.write_str_gives c.args.f.now i.0 f) (sym w.f-is) i.1,
        passed_at c.args.rows.now g.R.NamedBits.row_of c.loop-row.row-index c.row-item.result c.row-item.result
            c.loop-row-test.true c.row-item.is i.0 _ c.loop-row.is_first c.if-is_next.is_first c.args.set
            c.loop-row.left c.if-is_next.left (search rules) w.is_first-is w.left-is i.2,
      )
    ]

pub returns-in_ok-write-2 : goal.returns-in_ok-write-2
returns-in_ok-write-2 g c = record {
  writes = λ plain ok.
      let i = c.loop-row.invariant plain in
      let so_far = at_end c.args.rows.now g.R.NamedBits.row_of c.loop-row.row-index c.loop-row-test.false i.0 _
      c.loop-row.is_first c.args.set c.loop-row.left i.2 in
      let written : HasWritten g.W.Write.write_str_gives c.loop-row.f
      (mark c.loop-row.is_first ++ (codes "0x" ++ digits 16 false c.loop-row.left)) c.write-then-left-ne0.new.self =
      search rules in
      let whole : i.0 ++ (mark c.loop-row.is_first ++ (codes "0x" ++ digits 16 false c.loop-row.left))
      ≡ barred (names_in (map g.R.NamedBits.row_of c.args.rows.now) c.args.set c.args.set) =
      elim c.then-left-ne0.branch [
        | then-left-ne0-via-then-left-ne0 w ↦ left_step i.0 _ c.loop-row.is_first c.loop-row.left (search rules) so_far
        | then-left-ne0-via-else-left-ne0+then-is_first w ↦
            none_step i.0 _ c.loop-row.is_first c.loop-row.left w.if-is_first.true w.if-left-ne0.false so_far
      ] in
      has_written_of_eq _ _ _ _ _ whole (has_written_append _ _ _ _ _ _ i.1 written);
}

pub returns-else-is_first : goal.returns-else-is_first
returns-else-is_first g c = record {
  writes = λ plain ok.
      let i = c.loop-row.invariant plain in
      let so_far = at_end c.args.rows.now g.R.NamedBits.row_of c.loop-row.row-index c.loop-row-test.false i.0 _
      c.loop-row.is_first c.args.set c.loop-row.left i.2 in
      has_written_of_eq _ _ _ _ _
      (end_step i.0 _ c.loop-row.is_first c.loop-row.left c.if-is_first.false c.if-left-ne0.false so_far) i.1;
}
