use Rattle.std.proofs.Common.{◌≡◌, drop}
use Rattle.neli_resolvers.specs.Items.{first_error}
use Rattle.neli_resolvers.proofs.items.refuse_errors.Given as goal

-- the first error is in the items from here on
abbrev pub invariant-loop-item : goal.invariant-loop-item
invariant-loop-item l = first_error (drop l.item-index l.items) ≡ first_error l.items
