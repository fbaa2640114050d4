-- What is written into a caller's bytes.
use Rattle.std.specs.Prelude.{◌≡◌, ℕ, ◌+◌, ◌-◌, ◌^◌, ℤ, ◌&&◌, ◌||◌, nat_eq, nat_le, nat_lt, if◌then◌else◌, List}
use Rattle.std.specs.Prelude.{◌++◌, length, take, drop, Ok}
use Rattle.byteorder.specs.Endian.{little_bytes}
use Rattle.neli_wire.specs.Sizes.{align}
use Rattle.neli_wire.specs.Writing.{Wire}
use Rattle.neli_c_parts.specs.Codes.{ok, room, bad_length, place}

-- the bytes with these in place of as many at their front
abbrev pub put_first : List ℕ → List ℕ → List ℕ
put_first written out = written ++ drop (length written) out

-- the bytes with these in place of as many from a place on
abbrev pub put : ℕ → List ℕ → List ℕ → List ℕ
put at written out = take at out ++ put_first written (drop at out)

-- a message's header: its length, type, flags, sequence number and port (`struct nlmsghdr` of linux/netlink.h)
abbrev pub header_bytes : ℕ → ℕ → ℕ → ℕ → ℕ → List ℕ
header_bytes len message_type flags number port =
    (((little_bytes 4 len ++ little_bytes 2 message_type) ++ little_bytes 2 flags) ++ little_bytes 4 number)
    ++ little_bytes 4 port

-- ---- a writer's start

-- where no message was begun: what is put belongs to a body
abbrev pub no_message : ℕ
no_message = 2 ^ 64 - 1

-- of a writer at these places once something was put: where a message begins and nothing was put there is none
abbrev pub start_after : ℕ → ℕ → ℕ
start_after start end = if nat_eq start end then no_message else start

-- ---- what calls answer

-- the bytes of a message are written where there is room, and `length` is how many there are
abbrev pub WritesMessage : ℤ → Wire → List ℕ → List ℕ → ℕ → Type 0
WritesMessage code (Ok bytes) old new size =
    (size ≡ length bytes) × (code ≡ (if nat_le (length bytes) (length old) then ok else room))
    × (code ≡ ok → new ≡ put_first bytes old)
WritesMessage code e old new size = ⊥

-- of an attribute with so many bytes of payload, at a place in so many bytes
abbrev pub attribute_code : ℕ → ℕ → ℕ → ℤ
attribute_code payload at size =
    if nat_lt 65535 (4 + payload) then bad_length else (if nat_le (at + align (4 + payload)) size then ok else room)

-- of the end of a nest, in a message from `start` to `end`, behind its header, or anywhere in a body
abbrev pub nest_end_code : ℕ → ℕ → ℕ → ℕ → ℤ
nest_end_code start end nest size =
    if (nat_eq start no_message || nat_le (start + 16) nest) && nat_le (nest + 4) end && nat_le end size
    then (if nat_lt 65535 (end - nest) then bad_length else ok) else place

-- of the end of a message
abbrev pub message_end_code : ℕ → ℕ → ℕ → ℤ
message_end_code start end size =
    if nat_le (start + 16) end && nat_le end size
    then (if nat_lt 4294967295 (end - start) then bad_length else ok) else place
