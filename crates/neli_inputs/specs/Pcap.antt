-- Pcap files: a header of 24 bytes, and then records, one after the other.
use Rattle.std.specs.Prelude.{◌≡◌, ℕ, Bool, ◌+◌, ◌-◌, ◌*◌, ◌<◌, ◌==◌, ◌||◌, nat_lt, if◌then◌else◌, List, [], ◌∷◌, length, drop}
use Rattle.std.specs.Prelude.{slice_range, Option, Some, None, Result, Ok, Err}
use Rattle.byteorder.specs.Endian.{little_number}
use Rattle.neli_inputs.specs.declared.cooked.Cooked.{Cooked}
use Rattle.neli_inputs.specs.declared.item.Item.{Item}
use Rattle.neli_inputs.specs.declared.item.Packet.{Packet}
use Rattle.neli_inputs.specs.declared.item.Refusal.{Refusal}
use Rattle.neli_inputs.specs.declared.item.Refusal.TheVariants.{FileHeader, LinkType, RecordHeader, RecordBytes}
use Rattle.neli_inputs.specs.declared.item.Refusal.TheVariants.{Snapped, NotNetlink}
use Rattle.neli_inputs.specs.declared.order.Order.{Order}
use Rattle.neli_inputs.specs.declared.order.Order.TheVariants.{Little, Big}
use Rattle.neli_inputs.specs.declared.pcap.Records.{Records}
use Rattle.neli_inputs.specs.Cooked.{cooked_by, is_read}
use Rattle.neli_inputs.specs.Orders.{number_in}

-- the magic number, for microseconds or for nanoseconds, shows the order of all the file's numbers
abbrev pub order_by : ℕ → Option Order
order_by magic =
    if (magic == 0xa1b2c3d4) || (magic == 0xa1b23c4d) then Some Little
    else (if (magic == 0xd4c3b2a1) || (magic == 0x4d3cb2a1) then Some Big else None)

-- the order of a file's numbers, where it begins with a magic number
abbrev pub order_of : List ℕ → Option Order
order_of file = if nat_lt (length file) 4 then None else order_by (little_number 4 file)

-- how the records of a file are read: by its magic number, and the link type in its last four bytes
abbrev pub records_of : Order → List ℕ → Records
records_of order file =
    record {
      order = order;
      has_nanoseconds = number_in order file 0 == 0xa1b23c4d;
      link = number_in order file 20;
    }

-- a fraction of a second, in nanoseconds
abbrev pub nanoseconds_of : Bool → ℕ → ℕ
nanoseconds_of has_nanoseconds fraction = if has_nanoseconds then fraction else fraction * 1000

-- the size of the record at the front: its header, whose third number counts the kept bytes, and those
abbrev pub record_end : Order → List ℕ → Result ℕ Refusal
record_end order bytes =
    if nat_lt (length bytes) 16 then Err RecordHeader
    else (if nat_lt (length bytes - 16) (number_in order bytes 8) then Err (RecordBytes (length bytes - 16))
    else Ok (16 + number_in order bytes 8))

-- the time of a record in nanoseconds: its header's first number counts seconds, its second is the fraction
abbrev pub time_in : Records → List ℕ → ℕ
time_in records bytes =
    number_in records.order bytes 0 * 1000000000
    + nanoseconds_of records.has_nanoseconds (number_in records.order bytes 4)

-- the datagram follows the cooked header
abbrev pub after_cooked : Records → List ℕ → ℕ → ℕ → Option Cooked → Result Packet Refusal
after_cooked records bytes place end None = Err NotNetlink
after_cooked records bytes place end (Some cooked) =
    Ok (record {
      family = Some cooked.family;
      kind = Some cooked.kind;
      time = Some (time_in records bytes);
      interface = None;
      start = place + 16 + cooked.size;
      «end» = place + end;
    })

-- the packet of a complete record; its header's last number is the packet's original length
abbrev pub packet_to : Records → List ℕ → ℕ → Result ℕ Refusal → Result Packet Refusal
packet_to records bytes place (Err refusal) = Err refusal
packet_to records bytes place (Ok end) =
    if nat_lt (end - 16) (number_in records.order bytes 12) then Err (Snapped (number_in records.order bytes 12))
    else after_cooked records bytes place end (cooked_by records.link (slice_range bytes 16 end))

-- the packet of the record at the front of the bytes from `place` on
abbrev pub packet_in : Records → List ℕ → ℕ → Result Packet Refusal
packet_in records bytes place = packet_to records bytes place (record_end records.order bytes)

-- an incomplete record takes all the bytes
abbrev pub end_or_all : List ℕ → Result ℕ Refusal → ℕ
end_or_all bytes (Ok end) = end
end_or_all bytes (Err refusal) = length bytes

-- the size of the record at the front, in bytes
abbrev pub end_in : Order → List ℕ → ℕ
end_in order bytes = end_or_all bytes (record_end order bytes)

-- the item of the record that begins at this place of the file
abbrev pub item_at : Records → List ℕ → ℕ → Item
item_at records file place = record { place = place; packet = packet_in records (drop place file) place }

-- the items are those of the records from one place to another, one after the other
abbrev pub AreRecords : Records → List ℕ → ℕ → List Item → ℕ → Type 0
AreRecords records file place [] last = place ≡ last
AreRecords records file place (item ∷ items) last =
    (place < length file) × (item ≡ item_at records file place)
    × AreRecords records file (place + end_in records.order (drop place file)) items last

-- the refusal of a file's header: it is incomplete, or states a link type without netlink packets
abbrev pub refused_header : Order → List ℕ → Option Item
refused_header order file =
    if nat_lt (length file) 24 then Some (record { place = 0; packet = Err FileHeader })
    else (if is_read (number_in order file 20) then None
    else Some (record { place = 20; packet = Err (LinkType (number_in order file 20)) }))

-- the items of a file: that refusal, or else its records up to its end
abbrev pub AreItemsBy : Option Item → Order → List ℕ → List Item → Type 0
AreItemsBy (Some refused) order file items = items ≡ refused ∷ []
AreItemsBy None order file items = AreRecords (records_of order file) file 24 items (length file)

-- the items of a pcap file
abbrev pub ArePcapItems : Order → List ℕ → List Item → Type 0
ArePcapItems order file items = AreItemsBy (refused_header order file) order file items
