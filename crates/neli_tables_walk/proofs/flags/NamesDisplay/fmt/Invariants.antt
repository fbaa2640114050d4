use Rattle.std.proofs.Common.{◌≡◌, ℕ, List, ◌++◌, drop, map}
use Rattle.std.specs.Fmt.{HasWritten, IsPlainFormatter}
use Rattle.std.specs.List.{flat_map}
use denote.Text.{Utf8}
use denote.Shadow.{shadow}
use Rattle.neli_tables.specs.Lines.{line_view}
use Rattle.neli_tables.specs.Bits.{unnamed_bits}
use Rattle.neli_tables_walk.specs.Flags.{bit_texts, in_quotes, name_if_set, unnamed_text}
use Rattle.neli_tables_walk.specs.Lists.{joined}
use Rattle.neli_tables_walk.proofs.ValueLists.{after}
use Rattle.neli_tables_walk.proofs.flags.NamesDisplay.fmt.Given as goal

-- what is written, and the names of the rows that are left, are all names
abbrev pub invariant-loop-row : goal.invariant-loop-row
invariant-loop-row g l =
    shadow (Utf8 l.before) ×
    (IsPlainFormatter l.initial.f
    → (done : List ℕ) × HasWritten g.W.Write.write_str_gives l.initial.f done l.f
    × (done ++ after l.fn.self.between.now l.before
    (in_quotes l.fn.self.quote.now (flat_map (name_if_set l.fn.self.flags.bits)
    (drop l.row-index (map line_view l.rows))
    ++ unnamed_text (unnamed_bits l.fn.self.flags.bits l.fn.self.flags.bits
    (map line_view l.rows))))
    ≡ joined l.fn.self.between.now (in_quotes l.fn.self.quote.now
    (bit_texts l.fn.self.flags.table.now l.fn.self.flags.place l.fn.self.flags.bits))))
