use Rattle.std.proofs.Common.{◌+◌, ◌*◌}
use Rattle.neli_tables_write.proofs.message.Message.+members.Given as goal

-- a list in another has one level less
abbrev pub decreases-take_members : goal.decreases-take_members
decreases-take_members l = 5 * l.depth

abbrev pub decreases-take_member : goal.decreases-take_member
decreases-take_member l = 5 * l.depth + 4

abbrev pub decreases-take_known : goal.decreases-take_known
decreases-take_known l = 5 * l.depth + 3

abbrev pub decreases-take_one : goal.decreases-take_one
decreases-take_one l = 5 * l.depth + 2

abbrev pub decreases-take_hops : goal.decreases-take_hops
decreases-take_hops l = 5 * l.depth + 1
