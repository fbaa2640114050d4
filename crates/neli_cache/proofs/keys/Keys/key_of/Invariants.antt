use Rattle.std.proofs.Common.{◌≡◌, flat_map, take}
use Rattle.neli_cache.specs.Keys.{part_of}
use Rattle.neli_cache.proofs.keys.Keys.key_of.Given as goal

-- the parts so far
abbrev pub invariant-loop-part : goal.invariant-loop-part
invariant-loop-part l = l.key.items ≡ flat_map (part_of l.self.header l.payload) (take l.part-index l.self.parts)
