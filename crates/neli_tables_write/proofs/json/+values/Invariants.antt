use Rattle.std.proofs.Common.{◌+◌, ◌*◌}
use Rattle.neli_tables_write.proofs.json.+values.Given as goal

-- a structure or an array in another has one level less
abbrev pub decreases-json_bytes : goal.decreases-json_bytes
decreases-json_bytes l = 4 * l.depth

abbrev pub decreases-array_bytes : goal.decreases-array_bytes
decreases-array_bytes l = 4 * l.depth + 3

abbrev pub decreases-struct_bytes : goal.decreases-struct_bytes
decreases-struct_bytes l = 4 * l.depth + 3

abbrev pub decreases-set_fields : goal.decreases-set_fields
decreases-set_fields l = 4 * l.depth + 2

abbrev pub decreases-set_member : goal.decreases-set_member
decreases-set_member l = 4 * l.depth + 1
