use Rattle.std.proofs.Common.{length}
use Rattle.std.specs.Prelude.{map}
use Rattle.neli_wire.proofs.Elements.{Spells}
use Rattle.neli_wire.proofs.lists.read_all.Given as goal

abbrev pub invariant-loop-cursor : goal.invariant-loop-cursor
invariant-loop-cursor g l = Spells g.T.FromBytes.read l.bytes (map g.T.FromBytes.view l.items.items) l.cursor

abbrev pub decreases-loop-cursor : goal.decreases-loop-cursor
decreases-loop-cursor g l = length l.cursor.rest
