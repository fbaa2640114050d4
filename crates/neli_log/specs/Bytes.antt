-- The number of bytes in datagrams.
use Rattle.std.specs.Prelude.{ℕ, List, length}
use Rattle.std.specs.List.{sum_by}
use Rattle.neli_log.specs.declared.span.Datagram.{Datagram}

-- their total number of bytes
abbrev pub byte_count : List Datagram → ℕ
byte_count ds = sum_by (λ d. length d.bytes.items) ds
