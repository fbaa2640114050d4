use Rattle.std.proofs.Common.{◌++◌, codes, ap, rules, ◌∙◌}
use Rattle.std.proofs.Output.{has_written_append, has_written_of_eq}
use Rattle.std.specs.Fmt.{HasWritten, decimal}
use Rattle.std.specs.Option.{option_map}
use Rattle.neli_tables_walk.specs.Names.{line_name}
use Rattle.neli_print.specs.Names.{name_member, row_name}
use Rattle.neli_print.specs.Pieces.{when}
use Rattle.neli_print.proofs.item_json.LabelDisplay.fmt.Goals as goal

pub returns-clause-writes : goal.returns-clause-writes
returns-clause-writes g c = λ plain ok.
    let took = g.W.Write.write_str_gives in
    let me = c.args.self.now in
    let name-text = name_member (option_map (λ name. line_name name.table.now name.place) c.row_name.result) in
    let nested-text = when c.nla_nested.result.now (codes ",\"nested\":true") in
    let order-text = when c.nla_network_order.result.now (codes ",\"net_byteorder\":true") in
    let head : HasWritten took c.args.f.now (codes "\"number\":") c.write_str.new.self = search rules in
    let number : HasWritten took c.write_str.new.self (decimal c.nla_type.result.now) c.fmt.new.f = search rules in
    let name : HasWritten took c.fmt.new.f name-text c.fmt-2.new.f = search rules in
    let nested : HasWritten took c.fmt-2.new.f nested-text c.fmt-3.new.f = search rules in
    let order : HasWritten took c.fmt-3.new.f order-text c.fmt-4.new.f = search rules in
    has_written_of_eq took _ _ _ _
    (ap (λ n. codes "\"number\":" ++ (decimal n ++ (name-text ++ (nested-text ++ order-text)))) c.nla_type.ensures
    ∙ ap (λ t. codes "\"number\":" ++ (decimal me.kind.nla_type ++ (name_member t ++ (nested-text ++ order-text)))) c.row_name.ensures
    ∙ ap (λ b. codes "\"number\":" ++ (decimal me.kind.nla_type ++ (name_member (row_name me.table.now me.step)
    ++ (when b (codes ",\"nested\":true") ++ order-text)))) c.nla_nested.ensures
    ∙ ap (λ b. codes "\"number\":" ++ (decimal me.kind.nla_type ++ (name_member (row_name me.table.now me.step)
    ++ (when me.kind.nla_nested (codes ",\"nested\":true") ++ when b (codes ",\"net_byteorder\":true"))))) c.nla_network_order.ensures)
    (has_written_append _ _ _ _ _ _ head (has_written_append _ _ _ _ _ _ number (has_written_append _ _ _ _ _ _ name
    (has_written_append _ _ _ _ _ _ nested order))))
