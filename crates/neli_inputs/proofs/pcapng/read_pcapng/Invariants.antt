use Rattle.std.proofs.Common.{◌≡◌, ◌≤◌, ◌-◌, ◌++◌, drop, length}
use Rattle.neli_inputs.specs.Pcapng.{items_from, pcapng_items}
use Rattle.neli_inputs.proofs.pcapng.read_pcapng.Given as goal

-- the items so far stand before those of the blocks to come
abbrev pub invariant-loop-place : goal.invariant-loop-place
invariant-loop-place l = record {
  within : l.place ≤ length l.file;
  items : pcapng_items l.file ≡ l.items.items ++ items_from l.order l.interfaces.items l.place 0 (drop l.place l.file);
}

abbrev pub decreases-loop-place : goal.decreases-loop-place
decreases-loop-place l = length l.file - l.place
