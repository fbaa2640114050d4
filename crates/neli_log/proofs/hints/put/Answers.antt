use Rattle.std.specs.Cmp.{nat_eq_equiv}
use Rattle.indexmap.proofs.CallerLemmas.{updates-with_value_at}
use Rattle.neli_log.proofs.Numbers.{none_there, set_at}
use Rattle.neli_log.proofs.hints.put.Goals as goal

pub returns-in-Some-get_index_mut-clause-updates : goal.returns-in-Some-get_index_mut-clause-updates
returns-in-Some-get_index_mut-clause-updates g c = λ q.
    let there = c.in-Some.ensures.found in
    (updates-with_value_at c.args.numbers.now c.in-Some.index c.args.value nat_eq_equiv c.get_index_mut.ensures.unique
    c.args.number there.0 there.1).0 q

pub returns-in-Some-get_index_mut-clause-entries : goal.returns-in-Some-get_index_mut-clause-entries
returns-in-Some-get_index_mut-clause-entries g c =
    let there = c.in-Some.ensures.found in
    set_at c.args.numbers.now.entries c.in-Some.index c.args.number there.0 c.args.value c.get_index_mut.ensures.unique
    there.1

pub returns-in_default-get_index_mut-clause-updates : goal.returns-in_default-get_index_mut-clause-updates
returns-in_default-get_index_mut-clause-updates g c =
    let there = c.in-Some.ensures.found in
    absurd (none_there c.args.numbers.now.entries c.in-Some.index c.args.number there.0 there.1
    (rw c.in_default-get_index_mut.is at c.get_index_mut.ensures.value))

pub returns-in_default-get_index_mut-clause-entries : goal.returns-in_default-get_index_mut-clause-entries
returns-in_default-get_index_mut-clause-entries g c =
    let there = c.in-Some.ensures.found in
    absurd (none_there c.args.numbers.now.entries c.in-Some.index c.args.number there.0 there.1
    (rw c.in_default-get_index_mut.is at c.get_index_mut.ensures.value))
