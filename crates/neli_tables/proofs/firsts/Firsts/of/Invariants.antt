use Rattle.std.proofs.Common.{◌≡◌, length}
use Rattle.neli_tables.specs.Index.{finds}
use Rattle.neli_tables.proofs.Noted.{AreFound}
use Rattle.neli_tables.proofs.firsts.Firsts.of.Given as goal

-- the lines passed are noted
abbrev pub invariant-loop-place : goal.invariant-loop-place
invariant-loop-place l =
    (length l.keys.items ≡ l.place) × AreFound (finds l.index) (λ i. i) l.keys.items
