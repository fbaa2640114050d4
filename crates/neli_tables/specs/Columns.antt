-- Fields of structures whose values have no names.
use Rattle.std.specs.Prelude.{ℕ, ◌||◌, Bool, true, false, is_some, if◌then◌else◌, List, ◌++◌, codes, Option, Some, None}
use Rattle.std.specs.String.{string_bytes}
use Rattle.neli_tables.specs.declared.column.Column.{Column}
use Rattle.neli_tables.specs.declared.kind.Kind.{Kind}
use Rattle.neli_tables.specs.declared.number.Span.{Span}
use Rattle.neli_tables.specs.declared.options.Options.{Options}
use Rattle.neli_tables.specs.declared.word.Word.{Word}
use Rattle.neli_tables.specs.declared.word.Word.TheVariants as word
use Rattle.neli_tables.specs.Lines.{LineSeen}
use Rattle.neli_tables.specs.Options.{options_of}
use Rattle.neli_tables.specs.Plain.{plain_name}

-- where a field lies, its kind, and its name as it is printed
pub record ColumnSeen : Type 0 where
  pub start : ℕ
  pub stop : ℕ
  pub kind : Kind
  pub text : List ℕ
  pub json : List ℕ

abbrev pub column_view : Column → ColumnSeen
column_view c = record {
  start = c.start;
  stop = c.end;
  kind = c.kind;
  text = string_bytes c.text;
  json = string_bytes c.json;
}

-- the values have names, or are several, or are printed in hexadecimal digits
abbrev pub is_formatted : Options → Bool
is_formatted o = (o.array || o.hex) || (is_some o.values || is_some o.flags)

-- the kind of what is printed as one value without a name
abbrev pub plain_kind : Options → Option Kind
plain_kind o = if is_formatted o then None else o.kind

abbrev pub column_with : Option Span → Option Kind → Option (List ℕ) → Option ColumnSeen
column_with (Some span) (Some kind) (Some name) = Some (record {
  start = span.first;
  stop = span.last;
  kind = kind;
  text = codes " " ++ (name ++ codes " ");
  json = codes "\"" ++ (name ++ codes "\":");
})
column_with span kind name = None

abbrev pub is_field : Word → Bool
is_field word.Field = true
is_field w = false

-- the column of a line: of a field with such a kind, whose name needs no escape
abbrev pub column_of : LineSeen → Option ColumnSeen
column_of line =
    if is_field line.word then column_with line.span (plain_kind (options_of line)) (plain_name line) else None
