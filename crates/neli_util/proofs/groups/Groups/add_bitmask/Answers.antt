use Rattle.neli_util.proofs.GroupLemmas.{added_or_kept-positive}
use Rattle.neli_util.specs.Masks.{groups_of}
use Rattle.neli_util.proofs.groups.Groups.add_bitmask.Goals as goal

pub invariant_of-self : goal.invariant_of-self
invariant_of-self c =
    added_or_kept-positive c.add_masked.result c.add_masked.new.list.items
    (groups_of c.args.mask) c.self.inside.numbers.items c.add_masked.ensures.ok c.add_masked.ensures.unchanged
    c.self.invariant

pub returns-clause-no_zero : goal.returns-clause-no_zero
returns-clause-no_zero c =
    added_or_kept-positive c.add_masked.result c.add_masked.new.list.items
    (groups_of c.args.mask) c.self.inside.numbers.items c.add_masked.ensures.ok c.add_masked.ensures.unchanged
    c.self.invariant
