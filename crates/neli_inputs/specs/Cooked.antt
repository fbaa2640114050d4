-- The cooked header before each netlink packet of a recording (tcpdump.org/linktypes.html). Its numbers have their high
-- byte first.
use Rattle.std.specs.Prelude.{ℕ, Bool, ◌||◌, not, ◌==◌, nat_lt, if◌then◌else◌, List, length, drop, slice_index, Option}
use Rattle.std.specs.Prelude.{Some, None}
use Rattle.byteorder.specs.Endian.{big_number}
use Rattle.neli_inputs.specs.declared.cooked.Cooked.{Cooked}

-- the link types whose packets may be of netlink: of nlmon, and of any interface of Linux in two versions
abbrev pub is_read : ℕ → Bool
is_read link = (link == 253) || ((link == 113) || (link == 276))

-- sixteen bytes: the kind of the packet, the type of hardware (824, netlink), ten others, and the netlink family
abbrev pub cooked_by_first : List ℕ → Option Cooked
cooked_by_first bytes =
    if nat_lt (length bytes) 16 || not (big_number 2 (drop 2 bytes) == 824) then None
    else Some (record { size = 16; family = big_number 2 (drop 14 bytes); kind = big_number 2 bytes })

-- twenty bytes: the netlink family, six others, the type of hardware, a byte that is the kind, and nine others
abbrev pub cooked_by_second : List ℕ → Option Cooked
cooked_by_second bytes =
    if nat_lt (length bytes) 20 || not (big_number 2 (drop 8 bytes) == 824) then None
    else Some (record { size = 20; family = big_number 2 bytes; kind = slice_index bytes 10 })

-- by the link type of the packet
abbrev pub cooked_by : ℕ → List ℕ → Option Cooked
cooked_by link bytes =
    if (link == 276) then cooked_by_second bytes
    else (if (link == 253) || (link == 113) then cooked_by_first bytes else None)
