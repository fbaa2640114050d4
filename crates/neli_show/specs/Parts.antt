-- What is printed of an input.
use Rattle.std.specs.Prelude.{ℕ, Bool, true, false, ◌&&◌, if◌then◌else◌, nat_le, List, [], ◌++◌}
use Rattle.std.specs.Prelude.{codes, length, slice_range, Result, Ok, Err}
use Rattle.std.specs.Fmt.{decimal}
use Rattle.std.specs.List.{flat_map}
use Rattle.std.specs.Option.{unwrap_or}
use Rattle.neli_inputs.specs.Refusals.{refusal_text}
use Rattle.neli_inputs.specs.declared.item.Item.{Item}
use Rattle.neli_inputs.specs.declared.item.Packet.{Packet}
use Rattle.neli_inputs.specs.declared.item.Refusal.{Refusal}
use Rattle.neli_print.specs.Messages.{datagram_json, datagram_text}
use Rattle.neli_print.specs.Pieces.{painted}
use Rattle.neli_print.specs.declared.pieces.Colour.TheVariants as colour
use Rattle.neli_tables.specs.declared.tables.Tables.{Tables}
use Rattle.neli_show.specs.declared.request.Output.{Output}
use Rattle.neli_show.specs.declared.request.Output.TheVariants as output

-- the bytes of a datagram of an input; none if its bounds are not within the input
abbrev pub packet_bytes : List ℕ → Packet → List ℕ
packet_bytes bytes packet =
    if nat_le packet.start packet.«end» && nat_le packet.«end» (length bytes)
    then slice_range bytes packet.start packet.«end» else []

-- a datagram in a form
abbrev pub datagram_by : Output → Tables → ℕ → List ℕ → List ℕ
datagram_by output.Text tables protocol bytes = datagram_text false tables protocol bytes
datagram_by output.Colour tables protocol bytes = datagram_text true tables protocol bytes
datagram_by output.Json tables protocol bytes = datagram_json tables protocol bytes

-- why a part is no datagram, and its place: a byte of a file, or a line of a text
abbrev pub refusal_line : Bool → ℕ → Refusal → List ℕ
refusal_line coloured place refusal =
    painted coloured colour.Error (codes "fault")
    ++ (codes ": input " ++ (decimal place ++ (codes ": " ++ (refusal_text refusal ++ codes "\n"))))

abbrev pub refusal_json : ℕ → Refusal → List ℕ
refusal_json place refusal =
    codes "{\"fault\":\"" ++ (refusal_text refusal
    ++ (codes "\",\"input\":" ++ (decimal place ++ codes "}\n")))

abbrev pub refusal_by : Output → ℕ → Refusal → List ℕ
refusal_by output.Text place refusal = refusal_line false place refusal
refusal_by output.Colour place refusal = refusal_line true place refusal
refusal_by output.Json place refusal = refusal_json place refusal

abbrev pub packet_by : Output → Tables → ℕ → List ℕ → ℕ → Result Packet Refusal → List ℕ
packet_by o tables protocol bytes place (Ok packet) =
    datagram_by o tables (unwrap_or packet.family protocol) (packet_bytes bytes packet)
packet_by o tables protocol bytes place (Err refusal) = refusal_by o place refusal

-- a part of an input: a datagram of the protocol that it states, or else of this one; or why it is
-- none
abbrev pub part_by : Output → Tables → ℕ → List ℕ → Item → List ℕ
part_by o tables protocol bytes item = packet_by o tables protocol bytes item.place item.packet

-- an input: its parts, in order
abbrev pub input_by : Output → Tables → ℕ → List ℕ → List Item → List ℕ
input_by o tables protocol bytes items = flat_map (part_by o tables protocol bytes) items
