-- Pcapng files: blocks, one after the other, each of a section.
use Rattle.std.specs.Prelude.{ℕ, zero, suc, Bool, ◌||◌, ◌&&◌, not, ◌==◌, ◌+◌, ◌-◌, ◌*◌, ◌/◌, ◌%◌, ◌^◌, nat_lt, nat_le}
use Rattle.std.specs.Prelude.{if◌then◌else◌, List, [], ◌∷◌, ◌++◌, length, take, drop, slice_get, slice_index, slice_range}
use Rattle.std.specs.Prelude.{Option, Some, None, is_some, Result, Ok, Err}
use Rattle.byteorder.specs.Endian.{big_number}
use Rattle.neli_inputs.specs.declared.cooked.Cooked.{Cooked}
use Rattle.neli_inputs.specs.declared.item.Item.{Item}
use Rattle.neli_inputs.specs.declared.item.Packet.{Packet}
use Rattle.neli_inputs.specs.declared.item.Refusal.{Refusal}
use Rattle.neli_inputs.specs.declared.item.Refusal.TheVariants.{RecordHeader, RecordBytes, ByteOrder, BlockSize}
use Rattle.neli_inputs.specs.declared.item.Refusal.TheVariants.{NoInterface, PacketSize, Snapped, NotNetlink}
use Rattle.neli_inputs.specs.declared.order.Order.{Order}
use Rattle.neli_inputs.specs.declared.order.Order.TheVariants.{Little, Big}
use Rattle.neli_inputs.specs.declared.pcapng.Interface.{Interface}
use Rattle.neli_inputs.specs.declared.pcapng.Kept.{Kept}
use Rattle.neli_inputs.specs.Cooked.{cooked_by}
use Rattle.neli_inputs.specs.Orders.{half_in, number_in}
use Rattle.neli_inputs.specs.Times.{time_of}

-- ---- a block: its kind, its size, a body, and its size again

-- a section begins with a block of this kind, whose bytes are the same in both orders
abbrev pub begins_section : List ℕ → Bool
begins_section bytes = big_number 4 bytes == 0x0a0d0d0a

-- a section states the order of its numbers
abbrev pub order_by : ℕ → Option Order
order_by mark = if (mark == 0x1a2b3c4d) then Some Big else (if (mark == 0x4d3c2b1a) then Some Little else None)

-- the file begins with a section
abbrev pub is_pcapng : List ℕ → Bool
is_pcapng file = nat_le 12 (length file) && (begins_section file && is_some (order_by (big_number 4 (drop 8 file))))

-- the order of the block at the front: that of the section that it begins, or else that of the section before
abbrev pub order_at : Order → List ℕ → Option Order
order_at order bytes = if begins_section bytes then order_by (big_number 4 (drop 8 bytes)) else Some order

-- the size of a block of this kind without options and bytes of a packet: a section, an interface, three kinds of packets
abbrev pub least_size : ℕ → ℕ
least_size kind =
    if (kind == 0x0a0d0d0a) then 28 else (if (kind == 1) then 20 else (if (kind == 3) then 16
    else (if (kind == 6) || (kind == 2) then 32 else 12)))

-- the size of the block at the front, a multiple of four; it stands at the block's end too
abbrev pub size_in : Order → List ℕ → Result ℕ Refusal
size_in order bytes =
    let size = number_in order bytes 4 in
    if nat_lt size (least_size (number_in order bytes 0)) || not (size % 4 == 0) then Err (BlockSize size)
    else (if nat_lt (length bytes) size then Err (RecordBytes (length bytes))
    else (if number_in order bytes (size - 4) == size then Ok size else Err (BlockSize size)))

-- this order, and a size
abbrev pub with_order : Order → Result ℕ Refusal → Result (Order × ℕ) Refusal
with_order order (Ok size) = Ok (order, size)
with_order order (Err refusal) = Err refusal

abbrev pub front_by : Option Order → List ℕ → Result (Order × ℕ) Refusal
front_by (Some order) bytes = with_order order (size_in order bytes)
front_by None bytes = Err ByteOrder

-- the order and the size of the block at the front, after a section of this order
abbrev pub front : Order → List ℕ → Result (Order × ℕ) Refusal
front order bytes = if nat_lt (length bytes) 12 then Err RecordHeader else front_by (order_at order bytes) bytes

-- ---- an interface: its link type, the longest packet, and options

-- a length, padded to four bytes
abbrev pub padded : ℕ → ℕ
padded length = (length + 3) / 4 * 4

-- the resolution of an interface's times, after so many bytes of its options, each a code, a length, and a value that is
-- padded: the value of the first option 9 before the end, which is 0; microseconds without one
abbrev pub resolution_from : Order → ℕ → List ℕ → ℕ
resolution_from order skip [] = 6
resolution_from order (suc skip) (b ∷ bytes) = resolution_from order skip bytes
resolution_from order zero (b ∷ bytes) =
    if nat_lt (length bytes) 4 || (half_in order (b ∷ bytes) 0 == 0) then 6
    else (if half_in order (b ∷ bytes) 0 == 9 then slice_index (b ∷ bytes) 4
    else resolution_from order (3 + padded (half_in order (b ∷ bytes) 2)) bytes)

-- the interface that a block describes
abbrev pub interface_in : Order → List ℕ → Interface
interface_in order block = record {
  link = half_in order block 8;
  longest = number_in order block 12;
  resolution = resolution_from order 0 (drop 16 block);
}

-- the interfaces of the section after a block
abbrev pub described : Order → List Interface → List ℕ → List Interface
described order interfaces block =
    if (number_in order block 0 == 0x0a0d0d0a) then []
    else (if number_in order block 0 == 1 then interfaces ++ interface_in order block ∷ [] else interfaces)

-- ---- a packet

-- the number of the interface of the packet in a block, if there is one in it
abbrev pub interface_number : Order → List ℕ → Option ℕ
interface_number order block =
    if number_in order block 0 == 6 then Some (number_in order block 8)
    else (if number_in order block 0 == 2 then Some (half_in order block 8)
    else (if number_in order block 0 == 3 then Some 0 else None))

-- so many bytes of a packet were kept, where this is the longest
abbrev pub limited : ℕ → ℕ → ℕ
limited longest length = if nat_lt 0 longest && nat_lt longest length then longest else length

-- the time, how many bytes were kept, the length of the packet, and where they stand in the block
abbrev pub kept_in : Order → Interface → List ℕ → Kept
kept_in order interface block =
    if number_in order block 0 == 3 then record {
      time = None;
      count = limited interface.longest (number_in order block 8);
      length = number_in order block 8;
      start = 12;
    } else record {
      time = time_of (number_in order block 12 * 2 ^ 32 + number_in order block 16) interface.resolution;
      count = number_in order block 20;
      length = number_in order block 24;
      start = 28;
    }

-- the datagram follows the cooked header
abbrev pub after_cooked : ℕ → Kept → ℕ → Option Cooked → Result Packet Refusal
after_cooked number kept place None = Err NotNetlink
after_cooked number kept place (Some cooked) =
    Ok (record {
      family = Some cooked.family;
      kind = Some cooked.kind;
      time = kept.time;
      interface = Some number;
      start = place + kept.start + cooked.size;
      «end» = place + kept.start + kept.count;
    })

-- the kept bytes of a packet stand before the size at the block's end
abbrev pub packet_by : ℕ → Interface → Kept → List ℕ → ℕ → Result Packet Refusal
packet_by number interface kept block place =
    if nat_lt (length block - 4) (kept.start + kept.count) then Err (PacketSize kept.count)
    else (if nat_lt kept.count kept.length then Err (Snapped kept.length)
    else after_cooked number kept place
    (cooked_by interface.link (slice_range block kept.start (kept.start + kept.count))))

abbrev pub packet_on : Order → ℕ → Option Interface → List ℕ → ℕ → Result Packet Refusal
packet_on order number None block place = Err (NoInterface number)
packet_on order number (Some interface) block place =
    packet_by number interface (kept_in order interface block) block place

-- the item of the block at this place, if it has a packet
abbrev pub items_by : Order → List Interface → Option ℕ → List ℕ → ℕ → List Item
items_by order interfaces None block place = []
items_by order interfaces (Some number) block place =
    record { place = place; packet = packet_on order number (slice_get interfaces number) block place } ∷ []

-- ---- a file

-- the items from a block on: it is refused, and nothing else is read, or others follow it
abbrev pub block_or : ℕ → (Order → ℕ → List Item) → Result (Order × ℕ) Refusal → List Item
block_or place read (Err refusal) = record { place = place; packet = Err refusal } ∷ []
block_or place read (Ok found) = read found.0 found.1

-- the items of a section with this order and these interfaces from `place` on, which so many bytes are before
abbrev pub items_from : Order → List Interface → ℕ → ℕ → List ℕ → List Item
items_from order interfaces place skip [] = []
items_from order interfaces place (suc skip) (b ∷ bytes) = items_from order interfaces place skip bytes
items_from order interfaces place zero (b ∷ bytes) =
    block_or place (λ here size.
    let block = take size (b ∷ bytes) in
    let known = described here interfaces block in
    items_by here known (interface_number here block) block place
    ++ items_from here known (place + size) (size - 1) bytes)
    (front order (b ∷ bytes))

-- the items of a pcapng file
abbrev pub pcapng_items : List ℕ → List Item
pcapng_items file = items_from Little [] 0 0 file
