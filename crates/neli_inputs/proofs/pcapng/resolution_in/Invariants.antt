use Rattle.std.proofs.Common.{◌≡◌, ◌≤◌, ◌-◌, drop, length}
use Rattle.neli_inputs.specs.Pcapng.{resolution_from}
use Rattle.neli_inputs.proofs.pcapng.resolution_in.Given as goal

-- what the options to come say is what all say
abbrev pub invariant-loop-place : goal.invariant-loop-place
invariant-loop-place l = record {
  within : l.place ≤ length l.options;
  same : resolution_from l.order 0 l.options ≡ resolution_from l.order 0 (drop l.place l.options);
}

abbrev pub decreases-loop-place : goal.decreases-loop-place
decreases-loop-place l = length l.options - l.place
