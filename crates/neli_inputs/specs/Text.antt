-- Hexadecimal text: its lines, and their datagrams.
use Rattle.std.specs.Prelude.{◌≡◌, ℕ, ◌+◌, ◌-◌, Bool, true, false, ◌&&◌, not, ◌==◌, nat_lt, nat_le, if◌then◌else◌, List}
use Rattle.std.specs.Prelude.{[], ◌∷◌, ◌++◌, length, slice_range, map, Option, Some, None, Result, Ok, Err}
use Rattle.std.specs.List.{flat_map, list_any, slice_split}
use Rattle.neli_inputs.specs.declared.cooked.Cooked.{Cooked}
use Rattle.neli_inputs.specs.declared.item.Item.{Item}
use Rattle.neli_inputs.specs.declared.item.Packet.{Packet}
use Rattle.neli_inputs.specs.declared.item.Refusal.{Refusal}
use Rattle.neli_inputs.specs.declared.item.Refusal.TheVariants.{Gap, LeftOut, NotHex}
use Rattle.neli_inputs.specs.declared.line.Line.{Line}
use Rattle.neli_inputs.specs.declared.line.Line.TheVariants as line
use Rattle.neli_inputs.specs.declared.text.Begun.{Begun}
use Rattle.neli_inputs.specs.Cooked.{cooked_by_first}
use Rattle.neli_inputs.specs.Items.{bare_item}
use Rattle.neli_inputs.specs.Lines.{count_in, is_addressed, line_of}

-- the lines of a text: the parts between its line feeds
abbrev pub lines_in : List ℕ → List (List ℕ)
lines_in text = slice_split (λ b. b == 10) text

-- the line is one of a dump
abbrev pub is_dump : Line → Bool
is_dump (line.Dump offset count) = true
is_dump line = false

-- ---- the effect of a line on the open datagram, which has the bytes up to `place`

-- a line of a dump continues it if its offset is the number of those bytes
abbrev pub continues : Option Begun → ℕ → ℕ → Bool
continues None place offset = false
continues (Some begun) place offset = nat_lt begun.start place && (offset == (place - begun.start))

-- any other line of a dump ends it, and so does a line without bytes
abbrev pub ends : Option Begun → ℕ → Line → Bool
ends begun place line.Empty = true
ends begun place (line.Bytes count) = false
ends begun place (line.Dump offset count) = not (continues begun place offset)
ends begun place line.LeftOut = true
ends begun place line.Other = true

-- a dump begins with offset 0; a line that is not hexadecimal is a heading if the text has dumps
abbrev pub refusal_of : Bool → Option Begun → ℕ → Line → Option Refusal
refusal_of dumps begun place line.Empty = None
refusal_of dumps begun place (line.Bytes count) = None
refusal_of dumps begun place (line.Dump offset count) =
    if (offset == 0) then None else (if continues begun place offset then None else Some Gap)
refusal_of dumps begun place line.LeftOut = Some LeftOut
refusal_of dumps begun place line.Other = if dumps then None else Some NotHex

-- the open datagram, or else a new one
abbrev pub begun_or_new : Option Begun → ℕ → ℕ → Begun
begun_or_new (Some begun) number place = begun
begun_or_new None number place = record { line = number; start = place }

-- the open datagram after line `number`
abbrev pub begun_after : Option Begun → ℕ → ℕ → Line → Option Begun
begun_after begun number place line.Empty = None
begun_after begun number place (line.Bytes count) = Some (begun_or_new begun number place)
begun_after begun number place (line.Dump offset count) =
    if (offset == 0) then Some (record { line = number; start = place })
    else (if continues begun place offset then begun else None)
begun_after begun number place line.LeftOut = None
begun_after begun number place line.Other = None

-- ---- the items

-- the item of the open datagram, which ends here
abbrev pub closed : Option Begun → ℕ → List Item
closed None place = []
closed (Some begun) place =
    bare_item begun.line begun.start place ∷ []

-- the item of a line that is refused
abbrev pub refused : ℕ → Option Refusal → List Item
refused number None = []
refused number (Some refusal) = record { place = number; packet = Err refusal } ∷ []

-- the items of a line: the datagram that it ends, and its refusal
abbrev pub items_at : Bool → ℕ → ℕ → Option Begun → Line → List Item
items_at dumps number place begun line =
    (if ends begun place line then closed begun place else [])
    ++ refused number (refusal_of dumps begun place line)

-- the items of lines, the first of them with this number, after so many bytes, with this open datagram
abbrev pub items_from : Bool → ℕ → ℕ → Option Begun → List Line → List Item
items_from dumps number place begun [] = closed begun place
items_from dumps number place begun (line ∷ lines) =
    items_at dumps number place begun line
    ++ items_from dumps (number + 1) (place + count_in line) (begun_after begun number place line) lines

-- the items of all lines of a text
abbrev pub items_in : List Line → List Item
items_in lines = items_from (list_any is_dump lines) 1 0 None lines

-- ---- cooked headers

-- the cooked header of 16 bytes at the front of a datagram
abbrev pub cooked_in : List ℕ → Packet → Option Cooked
cooked_in bytes packet =
    if nat_le packet.start packet.«end» && nat_le packet.«end» (length bytes)
    then cooked_by_first (slice_range bytes packet.start packet.«end») else None

-- the datagram without that header, which gives its family and its kind
abbrev pub after_header : Item → Packet → Option Cooked → Item
after_header item packet None = item
after_header item packet (Some cooked) =
    record {
      place = item.place;
      packet = Ok (record {
        family = Some cooked.family;
        kind = Some cooked.kind;
        time = packet.time;
        interface = packet.interface;
        start = packet.start + cooked.size;
        «end» = packet.«end»;
      });
    }

-- a refusal is unchanged
abbrev pub uncooked_by : List ℕ → Item → Result Packet Refusal → Item
uncooked_by bytes item (Ok packet) = after_header item packet (cooked_in bytes packet)
uncooked_by bytes item (Err refusal) = item

-- an item without the cooked header that its datagram may have
abbrev pub uncooked : List ℕ → Item → Item
uncooked bytes item = uncooked_by bytes item item.packet

-- the bytes of a text, and its items
abbrev pub IsText : List ℕ → List ℕ → List Item → Type 0
IsText text bytes items =
    let addressed = is_addressed (lines_in text) in
    (bytes ≡ flat_map (λ line. (line_of addressed line).1) (lines_in text))
    × (items ≡ map (uncooked bytes) (items_in (map (λ line. (line_of addressed line).0) (lines_in text))))
