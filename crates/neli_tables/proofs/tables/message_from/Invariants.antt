use Rattle.std.proofs.Common.{◌≡◌, drop}
use Rattle.neli_tables.specs.Families.{message_from}
use Rattle.neli_tables.specs.RowKeys.{way_number}
use Rattle.neli_tables.proofs.tables.message_from.Given as goal

-- no table passed has the message
abbrev pub invariant-loop-index : goal.invariant-loop-index
invariant-loop-index l =
    message_from l.protocol (way_number l.way) l.first l.number 0 l.tables
    ≡ message_from l.protocol (way_number l.way) l.first l.number l.index (drop l.index l.tables)
