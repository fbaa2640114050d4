use Rattle.std.proofs.Common.{◌∙◌, sym, ap, Some}
use Rattle.std.specs.Option.{option_map}
use Rattle.neli_tables_walk.specs.Bodies.{body_in}
use Rattle.neli_tables_walk.specs.declared.head.Head.{Head}
use Rattle.neli_c_parts.specs.Tables.{head_of}
use Rattle.neli_c_parts.proofs.naming.body_in.Goals as goal

pub returns-in-Some : goal.returns-in-Some
returns-in-Some c =
    ap Some (c.body_of.ensures
    ∙ ap (λ (h : Head). body_in c.args.families.now.tables h c.in-Some.payload.now) c.head_of.ensures)
    ∙ sym (ap (option_map (body_in c.args.families.now.tables (head_of c.args.protocol c.args.message.now)))
    c.in-Some.ensures.some)
