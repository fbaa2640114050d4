use Rattle.std.proofs.Common.{◌≡◌, ℕ, List, ◌++◌, codes, map, max}
use Rattle.std.specs.Fmt.{HasWritten, IsPlainFormatter}
use Rattle.std.specs.Slice.Iter.{chunks_rest, chunks_size}
use denote.Text.{Utf8}
use denote.Shadow.{shadow}
use Rattle.neli_tables_walk.specs.FieldLists.{fields_json_by}
use Rattle.neli_tables_walk.specs.Plains.{item_json}
use Rattle.neli_tables_walk.specs.Lists.{joined, parts_of}
use Rattle.neli_tables_walk.specs.Structures.{structures_members}
use Rattle.neli_tables_walk.proofs.ValueLists.{after}
use Rattle.neli_tables_walk.proofs.structures.StructuresJsonDisplay.fmt.Given as goal

-- what is written, and the parts that are left, are all structures
abbrev pub invariant-loop-bytes : goal.invariant-loop-bytes
invariant-loop-bytes g l =
    shadow (Utf8 l.comma) × (chunks_size l.bytes-iterator ≡ max l.fn.self.0.size 1) ×
    (IsPlainFormatter l.initial.f
    → (done : List ℕ) × HasWritten g.W.Write.write_str_gives l.initial.f done l.f
    × (done ++ after (codes ",") l.comma
    (map (fields_json_by item_json l.fn.self.0.fields.table.now l.fn.self.0.fields.place)
    (parts_of l.fn.self.0.size (chunks_rest l.bytes-iterator)))
    ≡ joined (codes ",") (structures_members l.fn.self.0.fields.table.now l.fn.self.0.fields.place
    l.fn.self.0.size l.fn.self.0.fields.bytes.now)))
