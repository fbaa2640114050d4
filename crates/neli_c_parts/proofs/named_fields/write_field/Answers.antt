use Rattle.std.proofs.Common.{◌≡◌, ◌∙◌, ◌+◌, ap, arith, length}
use Rattle.neli_tables_walk.specs.Values.{payload_json}
use Rattle.neli_c_parts.specs.Rooms.{put_at}
use Rattle.neli_c_parts.proofs.Parts.{put_both}
use Rattle.neli_c_parts.proofs.named_fields.write_field.Goals as goal

pub returns-clause-text : goal.returns-clause-text
returns-clause-text c =
    let field = c.args.field.now in let name = field.row.now.name.now in
    let value = payload_json field.table.now field.place field.part.now in
    let at : length name ≡ 0 + length name = omega arith in
    c.in_ok-end.ensures.text ∙ ap (put_at (length name) value) c.put_at.ensures
    ∙ put_both 0 (length name) name value c.args.out.now at
