use Rattle.std.proofs.Common.{◌≡◌, ℕ, List, ◌++◌, codes, map, max}
use Rattle.std.specs.Fmt.{HasWritten, IsPlainFormatter}
use Rattle.std.specs.Slice.Iter.{chunks_rest, chunks_size}
use denote.Text.{Utf8}
use denote.Shadow.{shadow}
use Rattle.neli_tables_walk.specs.Lists.{parts_of}
use Rattle.neli_tables_walk.specs.Named.{part_json}
use Rattle.neli_tables_walk.specs.Plains.{numbers_json}
use Rattle.neli_tables_walk.proofs.ValueLists.{after}
use Rattle.neli_tables_walk.proofs.plain.NumbersJsonDisplay.fmt.Given as goal

-- what is written, and the parts that are left, are all numbers
abbrev pub invariant-loop-bytes : goal.invariant-loop-bytes
invariant-loop-bytes g l =
    shadow (Utf8 l.comma) × (chunks_size l.bytes-iterator ≡ max l.fn.self.width.size 1) ×
    (IsPlainFormatter l.initial.f
    → (done : List ℕ) × HasWritten g.W.Write.write_str_gives l.initial.f done l.f
    × (done ++ after (codes ",") l.comma
    (map (part_json l.fn.self.item.table.now l.fn.self.item.options.now l.fn.self.width)
    (parts_of l.fn.self.width.size (chunks_rest l.bytes-iterator)))
    ≡ numbers_json l.fn.self.item.table.now l.fn.self.item.options.now l.fn.self.width
    l.fn.self.item.bytes.now))
