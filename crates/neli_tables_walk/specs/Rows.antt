-- A row of a structure, and what its table keeps of it.
use Rattle.std.specs.Prelude.{◌≡◌, Option}
use Rattle.std.specs.Borrow.{Bor}
use Rattle.std.specs.Option.{option_map}
use Rattle.neli_tables.specs.declared.column.Column.{Column}
use Rattle.neli_tables.specs.Columns.{ColumnSeen, column_of, column_view}
use Rattle.neli_tables.specs.Lines.{line_view}
use Rattle.neli_tables.specs.Options.{options_of}
use Rattle.neli_tables.specs.Plain.{name_view, plain_name}
use Rattle.neli_tables_walk.specs.declared.fields.Row.{Row}

abbrev pub columns_view : Option (Bor Column) → Option ColumnSeen
columns_view column = option_map (λ (c : Bor Column). column_view c.now) column

-- what is kept is that of the line
pub record IsRow (row : Row) : Type 0 where
  pub options : row.options.now ≡ options_of (line_view row.line.now)
  pub column : columns_view row.column ≡ column_of (line_view row.line.now)
  pub name : name_view row.name ≡ plain_name (line_view row.line.now)
