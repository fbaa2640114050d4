use Rattle.std.proofs.Common.{◌-◌, ◌≤◌, length}
use Rattle.neli_inputs.specs.Pcap.{AreRecords}
use Rattle.neli_inputs.proofs.pcap.read_records.Given as goal

-- the items are those of the records so far
abbrev pub invariant-loop-place : goal.invariant-loop-place
invariant-loop-place l =
    (l.place ≤ length l.file) × AreRecords l.records l.file 24 l.items.items l.place

abbrev pub decreases-loop-place : goal.decreases-loop-place
decreases-loop-place l = length l.file - l.place
