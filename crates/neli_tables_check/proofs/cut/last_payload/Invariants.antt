use Rattle.std.proofs.Common.{◌≡◌}
use Rattle.std.specs.Option.{option_map}
use Rattle.neli_tables_check.specs.Cuts.{last_among, last_payload}
use Rattle.neli_tables_check.proofs.cut.last_payload.Given as goal

-- what is left gives what the whole does
abbrev pub invariant-loop-left : goal.invariant-loop-left
invariant-loop-left l =
    last_payload l.fn.number l.fn.bytes
    ≡ last_among l.left l.fn.number (option_map (λ p. p.now) l.found) l.rest

abbrev pub decreases-loop-left : goal.decreases-loop-left
decreases-loop-left l = l.left
