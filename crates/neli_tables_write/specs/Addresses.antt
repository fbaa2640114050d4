-- Addresses, by the texts that mean them.
use Rattle.std.specs.Prelude.{◌≡◌, ◌⊎◌, ℕ, ◌+◌, ◌*◌, ◌<◌, List, [], ◌∷◌, length, slice_index, slice_range, Ok}
use Rattle.hex.specs.Hex.{decode_of}
use Rattle.std.specs.Net.Addr.{ipv4_octets, ipv6_octets}
use Rattle.std.specs.Net.Grammar.{IsIpv4Text, IsIpv6Text}
use Rattle.std.specs.declared.net.ipv4_addr.Ipv4Addr.{Ipv4Addr}
use Rattle.std.specs.declared.net.ipv6_addr.Ipv6Addr.{Ipv6Addr}

-- the text writes an IPv4 address, and these are its octets
abbrev pub IsIpv4Of : List ℕ → List ℕ → Type 0
IsIpv4Of text bytes = (a : Ipv4Addr) × IsIpv4Text text a × (bytes ≡ ipv4_octets a)

-- the same of an IPv6 address
abbrev pub IsIpv6Of : List ℕ → List ℕ → Type 0
IsIpv6Of text bytes = (a : Ipv6Addr) × IsIpv6Text text a × (bytes ≡ ipv6_octets a)

-- the same of either
abbrev pub IsIpOf : List ℕ → List ℕ → Type 0
IsIpOf text bytes = IsIpv4Of text bytes ⊎ IsIpv6Of text bytes

-- ---- hardware addresses

-- two digits from this place on are this byte, and behind them the text ends, or a colon follows
abbrev pub IsByteAt : List ℕ → ℕ → ℕ → Type 0
IsByteAt text start b =
    (decode_of (slice_range text start (start + 2)) ≡ Ok (b ∷ []))
    × (start + 2 < length text → slice_index text (start + 2) ≡ 58)

-- each of these bytes is two digits of the text, with a colon between two of them, and no more is there
abbrev pub IsHardwareOf : List ℕ → List ℕ → Type 0
IsHardwareOf text bytes =
    ((text ≡ []) × (bytes ≡ []))
    ⊎ ((length text + 1 ≡ 3 * length bytes)
    × ((k : ℕ) → k < length bytes → IsByteAt text (k * 3) (slice_index bytes k)))
