use Rattle.std.proofs.Common.{◌≡◌, drop, filter_map}
use Rattle.neli_cache.specs.Differences.{gone_from}
use Rattle.neli_cache.proofs.difference.next_gone.Given as goal

-- none of the entries so far is gone
abbrev pub invariant-loop-index : goal.invariant-loop-index
invariant-loop-index l =
    filter_map (gone_from l.now) (drop l.fn.from l.before) ≡ filter_map (gone_from l.now) (drop l.index l.before)
