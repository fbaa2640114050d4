use Rattle.std.proofs.Common.{◌+◌, ◌*◌}
use Rattle.neli_tables_write.proofs.message.Message.+lists.Given as goal

-- a list in another has one level less
abbrev pub decreases-take_list : goal.decreases-take_list
decreases-take_list l = 4 * l.depth

abbrev pub decreases-take_item : goal.decreases-take_item
decreases-take_item l = 4 * l.depth + 3

abbrev pub decreases-take_hop : goal.decreases-take_hop
decreases-take_hop l = 4 * l.depth + 2

abbrev pub decreases-take_opened : goal.decreases-take_opened
decreases-take_opened l = 4 * l.depth + 1
