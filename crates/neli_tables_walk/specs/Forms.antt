-- What a payload is, by the options of its line.
use Rattle.std.specs.Prelude.{ℕ, Bool, true, false, if◌then◌else◌, Option, Some, None, slice_get}
use Rattle.neli_tables.specs.declared.kind.Kind.{Kind}
use Rattle.neli_tables.specs.declared.kind.Kind.TheVariants as kind
use Rattle.neli_tables.specs.Lines.{LineSeen}
use Rattle.neli_tables.specs.declared.options.Options.{Options}
use Rattle.neli_tables.specs.Bits.{mask_of}
use Rattle.neli_tables.specs.Families.{Lines}
use Rattle.neli_tables_walk.specs.declared.form.Cell.{Cell}
use Rattle.neli_tables_walk.specs.declared.form.Cell.TheVariants as cell
use Rattle.neli_tables_walk.specs.declared.form.Form.{Form}
use Rattle.neli_tables_walk.specs.declared.form.Form.TheVariants as form
use Rattle.neli_tables_walk.specs.declared.form.Plain.{Plain}
use Rattle.neli_tables_walk.specs.declared.form.Plain.TheVariants as plain
use Rattle.neli_tables_walk.specs.declared.number.Width.{Width}
use Rattle.neli_tables_walk.specs.Numbers.{width_of}

-- a kind that is no number's and no structure's; what only a walk enters is bytes
abbrev pub other_plain : Kind → Plain
other_plain kind.Flag = plain.Flag
other_plain kind.Text = plain.Text
other_plain kind.Ztext = plain.ZeroText
other_plain kind.Hardware = plain.Hardware
other_plain kind.Ipv4 = plain.Ipv4
other_plain kind.Ipv6 = plain.Ipv6
other_plain kind.Ip = plain.Ip
other_plain kind.Address = plain.Ip
other_plain kind.Sockaddr = plain.Socket
other_plain kind.Uuid = plain.Uuid
other_plain kind.Bits = plain.Bits
other_plain k = plain.Bytes

abbrev pub number_or_other : Bool → Kind → Option Width → Plain
number_or_other true k (Some w) = plain.Numbers w
number_or_other false k (Some w) = plain.Number w
number_or_other array k None = other_plain k

abbrev pub plain_by : Bool → ℕ → Option Kind → Plain
plain_by array length None = plain.Bytes
plain_by array length (Some k) = number_or_other array k (width_of (if array then 0 else length) k)

-- what so many bytes are by these options, where they are no structure
abbrev pub plain_of : Options → ℕ → Plain
plain_of o length = plain_by o.array length o.kind

-- ---- structures

abbrev pub line_size : Option LineSeen → ℕ
line_size None = 0
line_size (Some line) = mask_of line

-- the size of the structure at a place; 0 where there is none
abbrev pub size_at : Lines → ℕ → ℕ
size_at table place = line_size (slice_get table place)

abbrev pub struct_at : Lines → Bool → Option ℕ → Form
struct_at table array None = form.Cell (cell.Plain plain.Bytes)
struct_at table true (Some place) = form.Cell (cell.Structures place (size_at table place))
struct_at table false (Some place) = form.Fields place

-- a structure, or several
abbrev pub struct_form : Lines → Options → Form
struct_form table o = struct_at table o.array o.of

abbrev pub form_by : Lines → Options → ℕ → Option Kind → Form
form_by table o length (Some kind.Struct) = struct_form table o
form_by table o length k = form.Cell (cell.Plain (plain_of o length))

-- what so many bytes are by these options
abbrev pub form_of : Lines → Options → ℕ → Form
form_of table o length = form_by table o length o.kind

abbrev pub cell_in : Form → Cell
cell_in (form.Cell c) = c
cell_in (form.Fields place) = cell.Plain plain.Bytes

-- what so many bytes are by the options of a field; one structure in another one is bytes
abbrev pub cell_of : Lines → Options → ℕ → Cell
cell_of table o length = cell_in (form_of table o length)
