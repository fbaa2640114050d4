-- The rows of a structure, and what their options say.
use Rattle.std.proofs.Common.{◌≡◌, ◌∙◌, ◌<◌, ℕ, List, ◌++◌, codes, length, map, get_or, Option, Some, None}
use Rattle.std.proofs.Common.{ap, sym, arith}
use Rattle.std.specs.Borrow.{Bor}
use Rattle.std.specs.Option.{option_map}
use Rattle.std.proofs.lemmas.List.{append_assoc, get_or-map, length-map, map-id}
use Rattle.neli_tables.specs.declared.column.Column.{Column}
use Rattle.neli_tables.specs.declared.line.Line.{Line}
use Rattle.neli_tables.specs.Columns.{column_view}
use Rattle.neli_tables.specs.declared.options.Options.{Options}
use Rattle.neli_tables.specs.Families.{Lines}
use Rattle.neli_tables.specs.Lines.{LineSeen, line_view}
use Rattle.neli_tables.specs.Options.{options_of}
use Rattle.neli_tables.specs.Plain.{name_view, plain_name}
use Rattle.neli_tables_walk.specs.FieldBytes.{field_bytes_by}
use Rattle.neli_tables_walk.specs.FieldLists.{Printed, member_by, member_json_with, member_with}
use Rattle.neli_tables_walk.specs.Names.{name_json}
use Rattle.neli_tables_walk.specs.Rows.{columns_view}

-- what is kept of each row, at the place of a row, is the row's
kept_at : {A B : Type 0} (view : A → B) (f : LineSeen → B) (rows : List Line) (kept : List A) (lines : List LineSeen)
    (i : ℕ) (x : Line) (k : A) → map line_view rows ≡ lines → map view kept ≡ map f lines → i < length rows
    → x ≡ get_or rows i x → view (get_or kept i k) ≡ f (line_view x)
kept_at view f rows kept lines i x k are is within at =
    let many : length kept ≡ length rows =
    omega (arith, length-map kept view, length-map lines f, length-map rows line_view, ap length is, ap length are) in
    sym (get_or-map view kept i k (view k) (omega (arith, many, within)))
    ∙ ap (λ ns. get_or ns i (view k)) (is ∙ ap (map f) (sym are))
    ∙ get_or-map f (map line_view rows) i (line_view x) (view k) (omega (arith, within, length-map rows line_view))
    ∙ ap f (get_or-map line_view rows i x (line_view x) within ∙ ap line_view (sym at))

pub kept_here : {A B : Type 0} (view : A → B) (f : LineSeen → B) (rows : List Line) (kept : List A)
    (lines : List LineSeen) (i : ℕ) (x : Line) (k : A) → map line_view rows ≡ lines → map view kept ≡ map f lines
    → i < length rows → x ≡ get_or rows i x → k ≡ get_or kept i k → view k ≡ f (line_view x)
kept_here view f rows kept lines i x k are is within at here =
    ap view here ∙ kept_at view f rows kept lines i x k are is within at

-- so are its options
pub options_here : (rows : List Line) (all : List Options) (lines : List LineSeen) (i : ℕ) (x : Line) (o : Options)
    → map line_view rows ≡ lines → all ≡ map options_of lines → i < length rows → x ≡ get_or rows i x
    → get_or all i o ≡ options_of (line_view x)
options_here rows all lines i x o are said within at =
    kept_at (λ (p : Options). p) options_of rows all lines i x o are (map-id all ∙ said) within at

-- and its name
pub name_here : (rows : List Line) (names : List (Option (Bor (List ℕ)))) (lines : List LineSeen) (i : ℕ) (x : Line)
    → map line_view rows ≡ lines → map name_view names ≡ map plain_name lines → i < length rows → x ≡ get_or rows i x
    → name_view (get_or names i None) ≡ plain_name (line_view x)
name_here rows names lines i x are kept within at =
    kept_at name_view plain_name rows names lines i x None are kept within at

-- a column that is lent is the one that is kept
pub lent_column : (lent : Option (Bor Column)) (kept : Option Column)
    → option_map (λ (c : Bor Column). c.now) lent ≡ kept → columns_view lent ≡ option_map column_view kept
lent_column (Some c) kept is = ap (option_map column_view) is
lent_column None kept is = ap (option_map column_view) is

module _ (by : Printed) (table : Lines) (bytes : List ℕ) (row : LineSeen) (o : Options) (same : o ≡ options_of row) where
  -- its member of an object
  pub member_has : (part : Option (List ℕ)) → part ≡ field_bytes_by row o bytes
      → member_by by table bytes row ≡ member_with by table row.name o part
  member_has part is =
      ap (λ (p : Options). member_with by table row.name p (field_bytes_by row p bytes)) (sym same)
      ∙ ap (member_with by table row.name o) (sym is)

  -- what is printed of it: its name and a colon, and its value
  pub member_printed : (part : List ℕ)
      → member_json_with by table row.name o part ≡ (name_json row.name ++ codes ":") ++ by table o part
  member_printed part = sym (append_assoc (name_json row.name) (codes ":") (by table o part))
