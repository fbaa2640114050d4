use Rattle.std.proofs.Common.{◌≡◌, ℕ, List, ◌++◌, max}
use Rattle.std.specs.Fmt.{HasWritten, IsPlainFormatter}
use Rattle.std.specs.List.{flat_map}
use Rattle.std.specs.Slice.Iter.{chunks_rest, chunks_size}
use Rattle.neli_tables_walk.specs.Lists.{parts_of}
use Rattle.neli_tables_walk.specs.Structures.{in_brackets, structures_text}
use Rattle.neli_tables_walk.proofs.structures.StructuresTextDisplay.fmt.Given as goal

-- what is written, and the parts that are left, are all structures
abbrev pub invariant-loop-bytes : goal.invariant-loop-bytes
invariant-loop-bytes g l =
    (chunks_size l.bytes-iterator ≡ max l.fn.self.0.size 1) ×
    (IsPlainFormatter l.initial.f
    → (done : List ℕ) × HasWritten g.W.Write.write_str_gives l.initial.f done l.f
    × (done ++ flat_map (in_brackets l.fn.self.0.fields.table.now l.fn.self.0.fields.place)
    (parts_of l.fn.self.0.size (chunks_rest l.bytes-iterator))
    ≡ structures_text l.fn.self.0.fields.table.now l.fn.self.0.fields.place l.fn.self.0.size
    l.fn.self.0.fields.bytes.now))
