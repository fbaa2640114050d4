-- How a payload cannot be of its kind.
use Rattle.std.specs.Prelude.{ℕ, ◌-◌, ◌%◌, Bool, not, ◌&&◌, ◌||◌, ◌==◌, nat_lt, if◌then◌else◌, List}
use Rattle.std.specs.Prelude.{◌++◌}
use Rattle.std.specs.Prelude.{length, take, slice_index, codes, Option, Some, None, is_some}
use Rattle.std.specs.Fmt.{decimal}
use Rattle.neli_tables_walk.specs.declared.breach.Breach.{Breach}
use Rattle.neli_tables_walk.specs.declared.breach.Breach.TheVariants.{Shorter, Longer, Uneven, NotText}
use Rattle.neli_tables_walk.specs.declared.breach.Breach.TheVariants.{NoZero, NoAddress, NoSocket}
use Rattle.neli_tables_walk.specs.declared.form.Cell.{Cell}
use Rattle.neli_tables_walk.specs.declared.form.Cell.TheVariants as cell
use Rattle.neli_tables_walk.specs.declared.form.Form.{Form}
use Rattle.neli_tables_walk.specs.declared.form.Form.TheVariants as form
use Rattle.neli_tables_walk.specs.declared.form.Plain.{Plain}
use Rattle.neli_tables_walk.specs.declared.form.Plain.TheVariants as plain
use Rattle.neli_tables_walk.specs.Addresses.{is_v4, is_v6}
use Rattle.neli_tables_walk.specs.Quoted.{text_in}

-- a breach in words
abbrev pub breach_text : Breach → List ℕ
breach_text (Shorter size) = codes "shorter than " ++ (decimal size ++ codes " bytes")
breach_text (Longer size) = codes "longer than " ++ (decimal size ++ codes " bytes")
breach_text (Uneven size) = codes "no whole parts of " ++ (decimal size ++ codes " bytes")
breach_text NotText = codes "not UTF-8"
breach_text NoZero = codes "no zero at the end"
breach_text NoAddress = codes "no address of 4 or 16 bytes"
breach_text NoSocket = codes "no address of a socket"

-- ---- texts

-- the last byte is a zero
abbrev pub ends_in_zero : List ℕ → Bool
ends_in_zero bytes = nat_lt 0 (length bytes) && slice_index bytes (length bytes - 1) == 0

-- the bytes before a zero at the end
abbrev pub without_zero : List ℕ → List ℕ
without_zero bytes = if ends_in_zero bytes then take (length bytes - 1) bytes else bytes

-- a text is UTF-8, before a zero at its end
abbrev pub text_breach : List ℕ → Option Breach
text_breach bytes = if is_some (text_in (without_zero bytes)) then None else Some NotText

-- the same, but the zero has to be there
abbrev pub zero_text_breach : List ℕ → Option Breach
zero_text_breach bytes = if ends_in_zero bytes then text_breach bytes else Some NoZero

-- ---- sizes

-- as many bytes as these
abbrev pub size_breach : ℕ → List ℕ → Option Breach
size_breach size bytes =
    if nat_lt (length bytes) size then Some (Shorter size)
    else (if nat_lt size (length bytes) then Some (Longer size) else None)

-- parts of so many bytes each, however many
abbrev pub parts_breach : ℕ → List ℕ → Option Breach
parts_breach size bytes =
    if size == 0 || not (length bytes % size == 0) then Some (Uneven size) else None

abbrev pub address_breach : List ℕ → Option Breach
address_breach bytes = if length bytes == 4 || length bytes == 16 then None else Some NoAddress

abbrev pub socket_breach : List ℕ → Option Breach
socket_breach bytes = if is_v4 bytes || is_v6 bytes then None else Some NoSocket

-- ---- payloads

-- how bytes are not what they are to be
abbrev pub plain_breach : Plain → List ℕ → Option Breach
plain_breach plain.Flag bytes = size_breach 0 bytes
plain_breach (plain.Number w) bytes = size_breach w.size bytes
plain_breach (plain.Numbers w) bytes = parts_breach w.size bytes
plain_breach plain.Bits bytes = size_breach 8 bytes
plain_breach plain.Text bytes = text_breach bytes
plain_breach plain.ZeroText bytes = zero_text_breach bytes
plain_breach plain.Hardware bytes = None
plain_breach plain.Ipv4 bytes = size_breach 4 bytes
plain_breach plain.Ipv6 bytes = size_breach 16 bytes
plain_breach plain.Ip bytes = address_breach bytes
plain_breach plain.Socket bytes = socket_breach bytes
plain_breach plain.Uuid bytes = size_breach 16 bytes
plain_breach plain.Bytes bytes = None

-- the same of structures, one after the other
abbrev pub cell_breach : Cell → List ℕ → Option Breach
cell_breach (cell.Plain p) bytes = plain_breach p bytes
cell_breach (cell.Structures place size) bytes = parts_breach size bytes

-- the same of all; one structure may be short, and longer than it was
abbrev pub form_breach : Form → List ℕ → Option Breach
form_breach (form.Cell c) bytes = cell_breach c bytes
form_breach (form.Fields place) bytes = None
