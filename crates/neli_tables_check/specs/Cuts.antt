-- Lists as the kernel's parsers cut them (nla_ok and nla_next of include/net/netlink.h).
use Rattle.std.specs.Prelude.{ℕ, zero, suc, Bool, ◌==◌, ◌&&◌, nat_le, nat_lt, if◌then◌else◌, List, length, take, drop}
use Rattle.std.specs.Prelude.{◌%◌, Option, Some, None}
use Rattle.byteorder.specs.Endian.{little_number}
use Rattle.neli_wire.specs.Sizes.{align}

-- ---- one entry: an attribute, or a hop

abbrev pub within : ℕ → ℕ → ℕ → Option ℕ
within front room size = if nat_le front size && nat_le size room then Some size else None

-- the size that bytes state in their first two, where it is no less than that of what stands at the
-- front of an entry, and they are as many
abbrev pub entry_size : ℕ → List ℕ → Option ℕ
entry_size front bytes =
    if nat_lt (length bytes) front then None
    else within front (length bytes) (little_number 2 (take 2 bytes))

-- what follows an entry of this size: it is padded to four, but the last need not be
abbrev pub behind : ℕ → List ℕ → List ℕ
behind size bytes = drop (align size) bytes

-- ---- an attribute

-- its type field: a number of 14 bits, and two flags above
abbrev pub type_field : List ℕ → ℕ
type_field entry = little_number 2 (take 2 (drop 2 entry))

abbrev pub entry_number : List ℕ → ℕ
entry_number entry = type_field entry % 16384

-- the flag NLA_F_NESTED
abbrev pub is_flagged : List ℕ → Bool
is_flagged entry = nat_le 32768 (type_field entry)

-- ---- of equal attributes the last, which is what a parser keeps

abbrev pub payload_or : ℕ → List ℕ → Option (List ℕ) → Option (List ℕ)
payload_or number entry before =
    if entry_number entry == number then Some (drop 4 entry) else before

abbrev pub last_from : ℕ → List ℕ → Option (List ℕ) → (Option (List ℕ) → List ℕ → Option (List ℕ))
    → Option ℕ → Option (List ℕ)
last_from number bytes before later None = before
last_from number bytes before later (Some size) =
    later (payload_or number (take size bytes) before) (behind size bytes)

-- the payload of the last attribute of this number among at most so many, or else that before them
unfoldable pub last_among : ℕ → ℕ → Option (List ℕ) → List ℕ → Option (List ℕ)
last_among zero number before bytes = before
last_among (suc count) number before bytes =
    last_from number bytes before (last_among count number) (entry_size 4 bytes)

-- the same of a list: it has fewer attributes than bytes
abbrev pub last_payload : ℕ → List ℕ → Option (List ℕ)
last_payload number bytes = last_among (length bytes) number None bytes
