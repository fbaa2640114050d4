-- The header of a message (`struct nlmsghdr` of linux/netlink.h).
use Rattle.std.specs.Prelude.{ℕ, ◌==◌, nat_le, List, ◌++◌, codes, length, Option, Some, None}
use Rattle.std.specs.Prelude.{Bool, if◌then◌else◌}
use Rattle.std.specs.Fmt.{decimal}
use Rattle.bitflags.specs.Sets.{Row}
use Rattle.neli_msg.specs.Headers.{Header as Read, header_in as read_at}
use Rattle.neli_tables_walk.specs.declared.head.Head.{Head}
use Rattle.neli_print.specs.MessageFlags.{flag_rows}
use Rattle.neli_tables_walk.specs.Names.{name_text}
use Rattle.neli_print.specs.declared.flags.FlagForm.{FlagForm}
use Rattle.neli_print.specs.declared.flags.FlagForm.TheVariants.{Bars, Strings}
use Rattle.neli_print.specs.declared.head.Header.{Header}
use Rattle.neli_print.specs.declared.pieces.Colour.TheVariants as colour
use Rattle.neli_print.specs.Flags.{all_left, flags_from}
use Rattle.neli_print.specs.Names.{name_member}
use Rattle.neli_print.specs.Pieces.{painted}

-- of a message that was read
abbrev pub header_of : ℕ → Read ℕ → Header
header_of protocol read = record {
  head = record { protocol = protocol; message_type = read.message_type; flags = read.flags };
  length = read.len;
  sequence = read.sequence_number;
  port = read.port;
}

-- of the header that bytes begin with, if there are its 16
abbrev pub header_in : ℕ → List ℕ → Option Header
header_in protocol bytes =
    if nat_le 16 (length bytes) then Some (header_of protocol (read_at (λ n. n) bytes)) else None

-- the name of a type that all protocols have
abbrev pub common_name : ℕ → Option (List ℕ)
common_name message_type =
    if message_type == 1 then Some (codes "NLMSG_NOOP")
    else (if message_type == 2 then Some (codes "NLMSG_ERROR")
    else (if message_type == 3 then Some (codes "NLMSG_DONE")
    else (if message_type == 4 then Some (codes "NLMSG_OVERRUN") else None)))

-- the names of the flags that a message may have
abbrev pub rows_of : Head → List Row
rows_of head = flag_rows (head.protocol == 0) head.message_type

-- its flags by name
abbrev pub header_flags : FlagForm → Head → List ℕ
header_flags form head =
    flags_from form head.flags.0 (all_left head.flags.0) (rows_of head)

-- a type by its name, or by its number
abbrev pub type_text : Option (List ℕ) → ℕ → List ℕ
type_text (Some name) number = name_text name
type_text None number = codes "type " ++ decimal number

-- in its colour
unfoldable pub type_words : Bool → Option (List ℕ) → ℕ → List ℕ
type_words coloured name number = painted coloured colour.Type (type_text name number)

-- a header on a line
abbrev pub header_text : Bool → Header → Option (List ℕ) → List ℕ
header_text coloured h name =
    type_words coloured name h.head.message_type ++ (codes " length " ++ (decimal h.length
    ++ (codes " flags " ++ (header_flags Bars h.head ++ (codes " seq " ++ (decimal h.sequence
    ++ (codes " port " ++ (decimal h.port ++ codes "\n"))))))))

-- its members in JSON
abbrev pub header_members : Header → Option (List ℕ) → List ℕ
header_members h name =
    codes "\"type\":" ++ (decimal h.head.message_type ++ (name_member name
    ++ (codes ",\"length\":" ++ (decimal h.length
    ++ (codes ",\"flags\":[" ++ (header_flags Strings h.head
    ++ (codes "],\"seq\":" ++ (decimal h.sequence ++ (codes ",\"port\":" ++ decimal h.port)))))))))
