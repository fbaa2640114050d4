-- IP addresses, and addresses of sockets.
use Rattle.std.specs.Prelude.{ℕ, Bool, ◌&&◌, ◌||◌, ◌==◌, if◌then◌else◌, List, ◌++◌, length, codes}
use Rattle.std.specs.Prelude.{slice_range}
use Rattle.std.specs.Fmt.{decimal}
use Rattle.std.specs.Net.Addr.{segments_of}
use Rattle.std.specs.Net.Text.{ipv4_text, ipv6_text}
use Rattle.byteorder.specs.Endian.{big_number, little_number}
use Rattle.neli_tables_walk.specs.Hex.{bytes_json, bytes_text}

-- four bytes are an IPv4 address, sixteen an IPv6 address, and others are bytes
abbrev pub ip_in_text : List ℕ → List ℕ
ip_in_text bytes =
    if length bytes == 4 then ipv4_text bytes
    else (if length bytes == 16 then ipv6_text (segments_of bytes) else bytes_text bytes)

abbrev pub ip_json : List ℕ → List ℕ
ip_json bytes =
    if length bytes == 4 || length bytes == 16 then codes "\"" ++ (ip_in_text bytes ++ codes "\"")
    else bytes_json bytes

-- ---- `struct sockaddr_in` of linux/in.h, `struct sockaddr_in6` of linux/in6.h

abbrev pub is_v4 : List ℕ → Bool
is_v4 bytes = length bytes == 16 && little_number 2 bytes == 2

abbrev pub is_v6 : List ℕ → Bool
is_v6 bytes = length bytes == 28 && little_number 2 bytes == 10

abbrev pub port_of : List ℕ → List ℕ
port_of bytes = decimal (big_number 2 (slice_range bytes 2 4))

abbrev pub flow_of : List ℕ → List ℕ
flow_of bytes = decimal (big_number 4 (slice_range bytes 4 8))

abbrev pub scope_of : List ℕ → List ℕ
scope_of bytes = decimal (little_number 4 (slice_range bytes 24 28))

abbrev pub v4_text : List ℕ → List ℕ
v4_text bytes =
    codes "address " ++ (ip_in_text (slice_range bytes 4 8) ++ (codes " port " ++ port_of bytes))

abbrev pub v6_text : List ℕ → List ℕ
v6_text bytes =
    codes "address " ++ (ip_in_text (slice_range bytes 8 24) ++ (codes " port " ++ (port_of bytes
    ++ (codes " flowinfo " ++ (flow_of bytes ++ (codes " scope_id " ++ scope_of bytes))))))

abbrev pub v4_json : List ℕ → List ℕ
v4_json bytes =
    codes "{\"address\":" ++ (ip_json (slice_range bytes 4 8)
    ++ (codes ",\"port\":" ++ (port_of bytes ++ codes "}")))

abbrev pub v6_json : List ℕ → List ℕ
v6_json bytes =
    codes "{\"address\":" ++ (ip_json (slice_range bytes 8 24)
    ++ (codes ",\"port\":" ++ (port_of bytes ++ (codes ",\"flowinfo\":" ++ (flow_of bytes
    ++ (codes ",\"scope_id\":" ++ (scope_of bytes ++ codes "}")))))))

-- an address of a socket, or bytes
abbrev pub socket_text : List ℕ → List ℕ
socket_text bytes =
    if is_v4 bytes then v4_text bytes else (if is_v6 bytes then v6_text bytes else bytes_text bytes)

abbrev pub socket_json : List ℕ → List ℕ
socket_json bytes =
    if is_v4 bytes then v4_json bytes else (if is_v6 bytes then v6_json bytes else bytes_json bytes)
