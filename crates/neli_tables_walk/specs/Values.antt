-- Payloads by the lines of a table, as text and as JSON.
use Rattle.std.specs.Prelude.{ℕ, Bool, false, if◌then◌else◌, is_some, List, ◌++◌, length, codes}
use Rattle.std.specs.Prelude.{Option, Some, None, slice_get}
use Rattle.std.specs.Option.{option_map}
use Rattle.neli_tables.specs.declared.kind.Kind.{Kind}
use Rattle.neli_tables.specs.declared.kind.Kind.TheVariants as kind
use Rattle.neli_tables.specs.declared.options.Options.{Options}
use Rattle.neli_tables.specs.Families.{Lines}
use Rattle.neli_tables.specs.Options.{options_of}
use Rattle.neli_tables_walk.specs.declared.breach.Breach.{Breach}
use Rattle.neli_tables_walk.specs.declared.form.Cell.TheVariants as cell
use Rattle.neli_tables_walk.specs.declared.form.Form.{Form}
use Rattle.neli_tables_walk.specs.declared.form.Form.TheVariants as form
use Rattle.neli_tables_walk.specs.declared.form.Plain.TheVariants as plain
use Rattle.neli_tables_walk.specs.declared.number.Number.{Number}
use Rattle.neli_tables_walk.specs.Breaches.{form_breach}
use Rattle.neli_tables_walk.specs.Cells.{cell_json, cell_text}
use Rattle.neli_tables_walk.specs.Fields.{fields_json, fields_text}
use Rattle.neli_tables_walk.specs.Forms.{form_of}
use Rattle.neli_tables_walk.specs.Hex.{bytes_json, bytes_text}
use Rattle.neli_tables_walk.specs.Numbers.{digits_by}

-- ---- what a payload is

abbrev pub form_text : Lines → Options → Form → List ℕ → List ℕ
form_text table o (form.Cell c) bytes = cell_text table o c bytes
form_text table o (form.Fields place) bytes = fields_text table place bytes

abbrev pub form_json : Lines → Options → Form → List ℕ → List ℕ
form_json table o (form.Cell c) bytes = cell_json table o c bytes
form_json table o (form.Fields place) bytes = fields_json table place bytes

-- what bytes are by these options; those that cannot be so are bytes
abbrev pub kept_form : Lines → Options → List ℕ → Form
kept_form table o bytes =
    if is_some (form_breach (form_of table o (length bytes)) bytes)
    then form.Cell (cell.Plain plain.Bytes)
    else form_of table o (length bytes)

-- ---- a payload by the line at a place

-- what the options of the line at a place say
abbrev pub line_options : Lines → ℕ → Option Options
line_options table place = option_map options_of (slice_get table place)

abbrev pub payload_text_by : Lines → List ℕ → Option Options → List ℕ
payload_text_by table bytes None = codes " " ++ bytes_text bytes
payload_text_by table bytes (Some o) = form_text table o (kept_form table o bytes) bytes

abbrev pub payload_json_by : Lines → List ℕ → Option Options → List ℕ
payload_json_by table bytes None = bytes_json bytes
payload_json_by table bytes (Some o) = form_json table o (kept_form table o bytes) bytes

-- each value after a blank
abbrev pub payload_text : Lines → ℕ → List ℕ → List ℕ
payload_text table place bytes = payload_text_by table bytes (line_options table place)

-- one value of JSON
abbrev pub payload_json : Lines → ℕ → List ℕ → List ℕ
payload_json table place bytes = payload_json_by table bytes (line_options table place)

abbrev pub line_breach : Lines → List ℕ → Option Options → Option Breach
line_breach table bytes None = None
line_breach table bytes (Some o) = form_breach (form_of table o (length bytes)) bytes

-- how a payload cannot be of its kind
abbrev pub payload_breach : Lines → ℕ → List ℕ → Option Breach
payload_breach table place bytes = line_breach table bytes (line_options table place)

-- ---- one number

abbrev pub options_digits : List ℕ → Option Options → Option Number
options_digits bytes None = None
options_digits bytes (Some o) = digits_by o bytes

-- the number that a payload is by the line at a place, where only its decimal digits are printed; of a kind that most
-- numbers have
abbrev pub payload_digits : Lines → ℕ → List ℕ → Option Number
payload_digits table place bytes = options_digits bytes (line_options table place)

-- ---- one structure

abbrev pub struct_by : Option Kind → Bool → Option ℕ → Option ℕ
struct_by (Some kind.Struct) false of = of
struct_by k array of = None

abbrev pub struct_of : Option Options → Option ℕ
struct_of None = None
struct_of (Some o) = struct_by o.kind o.array o.of

-- the place of the structure that a payload is by the line at a place, if it is one
abbrev pub struct_in : Lines → ℕ → Option ℕ
struct_in table place = struct_of (line_options table place)
