-- Spans: the bytes that they mean, and when they name the kept datagrams.
use Rattle.std.specs.Prelude.{ℕ, zero, suc, ◌≡◌, ◌≤◌, ◌<◌, ◌+◌, ◌-◌, ◌^◌, List, [], ◌∷◌, ◌++◌, Option}
use Rattle.std.specs.Prelude.{Some, None}
use Rattle.std.specs.Prelude.{length, map, slice_range}
use Rattle.std.specs.List.{slice_get}
use Rattle.std.specs.VecDeque.{deque_len, deque_capacity}
use Rattle.neli_log.specs.declared.span.Span.{Span}
use Rattle.neli_log.specs.declared.span.Datagram.{Datagram}
use Rattle.neli_log.specs.declared.datagrams.Datagrams.{Datagrams}
use Rattle.neli_log.specs.Bytes.{byte_count}

-- ---- the bytes of a span

-- those between its bounds, in its datagram
abbrev pub span_bytes_in : Span → Option Datagram → List ℕ
span_bytes_in s None = []
span_bytes_in s (Some d) = slice_range d.bytes.items s.start s.end

abbrev pub span_bytes : Datagrams → Span → List ℕ
span_bytes kept s = span_bytes_in s (slice_get kept.list.items (s.datagram - kept.first))

-- ---- when spans name the kept datagrams

-- the same number n times
abbrev pub copies : ℕ → ℕ → List ℕ
copies zero x = []
copies (suc n) x = x ∷ copies n x

-- the serial numbers that the spans name, in their order, if the first one is n: each datagram once for each of its
-- spans
abbrev pub serials_by_span : ℕ → List Datagram → List ℕ
serials_by_span n [] = []
serials_by_span n (d ∷ ds) = copies d.spans n ++ serials_by_span (suc n) ds

-- of two neighbours in one datagram, the later begins at or after the earlier's end
abbrev pub Apart : Span → List Span → Type 0
Apart s [] = Unit {0}
Apart s (t ∷ ts) = (s.datagram ≡ t.datagram → s.end ≤ t.start) × Apart t ts

-- the same of all neighbours
abbrev pub AreApart : List Span → Type 0
AreApart [] = Unit {0}
AreApart (s ∷ ss) = Apart s ss

-- a span ends at or before its datagram's end, and begins at or before its own end
abbrev pub IsWithin : ℕ → Span → Type 0
IsWithin size s = (s.start ≤ s.end) × (s.end ≤ size)

-- the spans name the datagrams from the serial number `first` on, in order and without a gap: the first span names the
-- first datagram, each later one the same or the next, the last one the last; no datagram is without a span
pub record SpansNameFrom (first : ℕ) (ds : List Datagram) (ss : List Span) : Type 0 where
  pub fits : first + length ds < 2 ^ 64
  pub serials : map (λ s. s.datagram) ss ≡ serials_by_span first ds
  pub some : (i : ℕ) (d : Datagram) → slice_get ds i ≡ Some d → 0 < d.spans
  pub apart : AreApart ss
  pub within : (i j : ℕ) (s : Span) (d : Datagram) → slice_get ss i ≡ Some s → s.datagram ≡ first + j
      → slice_get ds j ≡ Some d → IsWithin (length d.bytes.items) s

-- the same of the kept datagrams
abbrev pub SpansName : Datagrams → List Span → Type 0
SpansName kept ss = SpansNameFrom kept.first kept.list.items ss

-- some spans name them
abbrev pub AreNamed : Datagrams → Type 0
AreNamed kept = (ss : List Span) × SpansName kept ss

-- this span is among those that name them
abbrev pub IsNamed : Datagrams → Span → Type 0
IsNamed kept s = (ss : List Span) × (i : ℕ) × SpansName kept ss × (slice_get ss i ≡ Some s)

-- ---- a new datagram

-- its serial number
abbrev pub next_serial : Datagrams → ℕ
next_serial kept = kept.first + length kept.list.items

-- spans of the datagram with this serial number and so many bytes, one after the other
pub record AreSpansOf (serial size : ℕ) (ss : List Span) : Type 0 where
  pub one : (i : ℕ) (s : Span) → slice_get ss i ≡ Some s → (s.datagram ≡ serial) × IsWithin size s
  pub apart : AreApart ss

-- there is room for one more datagram, of so many bytes
pub record HasRoom (size : ℕ) (kept : Datagrams) : Type 0 where
  pub slot : deque_len kept.list < deque_capacity kept.list
  pub serial : next_serial kept + 1 < 2 ^ 64
  pub bytes : kept.bytes + size < 2 ^ 64

-- ---- the whole

-- the number of bytes kept
abbrev pub bytes_of : Datagrams → ℕ
bytes_of kept = byte_count kept.list.items

-- the same datagrams with the same serial numbers
abbrev pub IsUnchanged : Datagrams → Datagrams → Type 0
IsUnchanged before after = (after.first ≡ before.first) × (after.list.items ≡ before.list.items)
