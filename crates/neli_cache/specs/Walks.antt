-- The objects of a table, one by one.
use Rattle.std.specs.Prelude.{drop}
use Rattle.neli_cache.specs.declared.walk.Entries.{Entries}
use Rattle.neli_cache.specs.Tables.{Objects}

-- those that are still to come
abbrev pub entries_left : Entries → Objects
entries_left e = drop e.next e.table.now
