use Rattle.neli_util.proofs.GroupLemmas.{added_or_kept-positive}
use Rattle.neli_util.proofs.groups.Groups.add_groups.Goals as goal

pub invariant_of-self : goal.invariant_of-self
invariant_of-self c =
    added_or_kept-positive c.add_lacking.result c.add_lacking.new.list.items c.args.groups.now
    c.self.inside.numbers.items c.add_lacking.ensures.ok c.add_lacking.ensures.unchanged c.self.invariant

pub returns-clause-no_zero : goal.returns-clause-no_zero
returns-clause-no_zero c =
    added_or_kept-positive c.add_lacking.result c.add_lacking.new.list.items c.args.groups.now
    c.self.inside.numbers.items c.add_lacking.ensures.ok c.add_lacking.ensures.unchanged c.self.invariant
