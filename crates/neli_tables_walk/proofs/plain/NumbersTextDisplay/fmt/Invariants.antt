use Rattle.std.proofs.Common.{◌≡◌, ℕ, List, ◌++◌, max}
use Rattle.std.specs.Fmt.{HasWritten, IsPlainFormatter}
use Rattle.std.specs.List.{flat_map}
use Rattle.std.specs.Slice.Iter.{chunks_rest, chunks_size}
use Rattle.neli_tables_walk.specs.Lists.{parts_of}
use Rattle.neli_tables_walk.specs.Plains.{blank_part_text, numbers_text}
use Rattle.neli_tables_walk.proofs.plain.NumbersTextDisplay.fmt.Given as goal

-- what is written, and the parts that are left, are all numbers
abbrev pub invariant-loop-bytes : goal.invariant-loop-bytes
invariant-loop-bytes g l =
    (chunks_size l.bytes-iterator ≡ max l.fn.self.width.size 1) ×
    (IsPlainFormatter l.initial.f
    → (done : List ℕ) × HasWritten g.W.Write.write_str_gives l.initial.f done l.f
    × (done ++ flat_map
    (blank_part_text l.fn.self.item.table.now l.fn.self.item.options.now l.fn.self.width)
    (parts_of l.fn.self.width.size (chunks_rest l.bytes-iterator))
    ≡ numbers_text l.fn.self.item.table.now l.fn.self.item.options.now l.fn.self.width
    l.fn.self.item.bytes.now))
