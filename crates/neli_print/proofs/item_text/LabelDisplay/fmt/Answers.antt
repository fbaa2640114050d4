use Rattle.std.proofs.Common.{◌++◌, codes, ap, rules, ◌∙◌}
use Rattle.std.proofs.Output.{has_written_append, has_written_of_eq}
use Rattle.std.specs.Fmt.{HasWritten}
use Rattle.neli_print.specs.ItemsText.{name_words}
use Rattle.neli_print.specs.Pieces.{when}
use Rattle.neli_print.proofs.item_text.LabelDisplay.fmt.Goals as goal

pub returns-clause-writes : goal.returns-clause-writes
returns-clause-writes g c = λ plain ok.
    let took = g.W.Write.write_str_gives in
    let me = c.args.self.now in
    let words = name_words me.is_coloured me.table.now me.step in
    let nested-text = when c.nla_nested.result.now (codes " nested") in
    let order-text = when c.nla_network_order.result.now (codes " net_byteorder") in
    let name : HasWritten took c.args.f.now (words c.nla_type.result.now) c.fmt.new.f = search rules in
    let nested : HasWritten took c.fmt.new.f nested-text c.fmt-2.new.f = search rules in
    let order : HasWritten took c.fmt-2.new.f order-text c.fmt-3.new.f = search rules in
    has_written_of_eq took _ _ _ _
    (ap (λ n. words n ++ (nested-text ++ order-text)) c.nla_type.ensures
    ∙ ap (λ b. words me.kind.nla_type ++ (when b (codes " nested") ++ order-text)) c.nla_nested.ensures
    ∙ ap (λ b. words me.kind.nla_type ++ (when me.kind.nla_nested (codes " nested")
    ++ when b (codes " net_byteorder"))) c.nla_network_order.ensures)
    (has_written_append _ _ _ _ _ _ name (has_written_append _ _ _ _ _ _ nested order))
