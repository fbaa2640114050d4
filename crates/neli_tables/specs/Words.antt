-- The first words of lines (docs/TABLES.md).
use Rattle.std.specs.Prelude.{ℕ, List, [], ◌∷◌, Option, codes}
use Rattle.neli_tables.specs.declared.word.Word.{Word}
use Rattle.neli_tables.specs.declared.word.Word.TheVariants.{Family, Group, Message, Struct, Field, Set}
use Rattle.neli_tables.specs.declared.word.Word.TheVariants.{Attr, Each, Choice}
use Rattle.neli_tables.specs.declared.word.Word.TheVariants.{Case, Else, Enum, Flags, Value}
use Rattle.neli_tables.specs.Rows.{named}

-- each first word, and its line
unfoldable pub words : List (List ℕ × Word)
words =
    (codes "family", Family) ∷
    (codes "group", Group) ∷
    (codes "message", Message) ∷
    (codes "struct", Struct) ∷
    (codes "field", Field) ∷
    (codes "set", Set) ∷
    (codes "attr", Attr) ∷
    (codes "each", Each) ∷
    (codes "choice", Choice) ∷
    (codes "case", Case) ∷
    (codes "else", Else) ∷
    (codes "enum", Enum) ∷
    (codes "flags", Flags) ∷
    (codes "value", Value) ∷
    []

-- the line with this first word
abbrev pub word_named : List ℕ → Option Word
word_named name = named words name
