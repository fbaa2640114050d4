use Rattle.std.proofs.Common.{◌≡◌, drop, filter_map}
use Rattle.neli_cache.specs.Differences.{changed_from}
use Rattle.neli_cache.proofs.difference.next_changed.Given as goal

-- none of the entries so far has changed
abbrev pub invariant-loop-index : goal.invariant-loop-index
invariant-loop-index l =
    filter_map (changed_from l.before) (drop l.fn.from l.now) ≡ filter_map (changed_from l.before) (drop l.index l.now)
