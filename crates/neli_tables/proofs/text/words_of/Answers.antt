use Rattle.std.proofs.Common.{rules, tests, eqb}
use Rattle.std.specs.List.{slice_split}
use Rattle.std.proofs.lemmas.Iterator.Consumers.{map_from_collect, YieldsList-from_filter, YieldsList-at}
use Rattle.std.proofs.lemmas.Iterator.Search.{YieldsList-from_take_while}
use Rattle.std.proofs.lemmas.Iterator.Splits.{YieldsList-from_slice_split}
use Rattle.neli_tables.proofs.Texts.{among, is_filled, is_said}
use Rattle.neli_tables.proofs.text.words_of.Goals as goal

pub returns : goal.returns
returns c =
    let parts = slice_split (λ b. eqb b 32) c.args.line.now in
    rw (among parts) (map_from_collect _ c.collect.ensures.ran
    (YieldsList-from_filter _ is_filled (YieldsList-at c.filter.ensures.source
    (YieldsList-from_take_while _ is_said (YieldsList-at c.take_while.ensures.source
    (YieldsList-from_slice_split _ (λ b. eqb b 32) c.args.line.now
    c.split.ensures.rest c.split.ensures.done c.split.ensures.closure (λ x b q k. search (rules, tests))))
    c.take_while.ensures.closure c.take_while.ensures.done (λ x b q k. search (rules, tests))))
    c.filter.ensures.closure (λ x b q k. search (rules, tests))))
