use Rattle.std.proofs.Common.{◌≡◌, ◌^◌, ◌<◌, ◌≤◌}
use Rattle.neli_inputs.proofs.time.power.Given as goal

-- so many factors are taken
abbrev pub invariant-loop : goal.invariant-loop
invariant-loop l = record { power : l.power ≡ l.base ^ l.counter; fits : l.power < 2 ^ 64; positive : 1 ≤ l.power }
