-- What a log holds.
use Rattle.std.specs.Prelude.{ℕ, zero, suc, ◌≡◌, ◌≤◌, ◌+◌, List, ◌++◌, length, map, Option}
use Rattle.std.specs.Option.{option_map}
use Rattle.neli_reader.specs.Agreement.{untyped_layout}
use Rattle.neli_reader.specs.Cuts.{cut_of}
use Rattle.neli_deliveries.specs.declared.delivery.Delivery.{Delivery}
use Rattle.neli_deliveries.specs.Deliveries.{datagram_share}
use Rattle.neli_log.specs.declared.entry.Entry.{Entry}
use Rattle.neli_log.specs.Places.{IsSound, IsTrimmed, entries_of}
use Rattle.neli_log.specs.Places.{pending_of as items_of}
use Rattle.neli_log.specs.Spans.{bytes_of, span_bytes}
use Rattle.neli_log.specs.declared.content.Content.{Content}
use Rattle.neli_log.specs.declared.store.Store.{Store}
use Rattle.neli_log.specs.Contents.{AreBacked, delivery_of, entry_read, spans_of}
use Rattle.neli_log.specs.Routed.{AreAwaited, datagram_routed, is_open}
use Rattle.neli_log.specs.Staged.{HaveReaders}

-- the deliveries that wait for a number, or for multicast (None), if it is open
abbrev pub pending_of : Store → Option ℕ → Option (List Delivery)
pending_of s w = option_map (map (delivery_of (span_bytes s.datagrams))) (items_of s.places w)

-- the gain of a list from a datagram that arrived for these groups
abbrev pub share_of : Store → List ℕ → List ℕ → Option ℕ → List Delivery
share_of s bytes groups w = datagram_share s.port (is_open (pending_of s)) w (cut_of untyped_layout bytes) groups

-- the contents of such a datagram, each with its route
abbrev pub routed_by : Store → List ℕ → List ℕ → List (Entry Delivery)
routed_by s bytes groups = datagram_routed s.port (is_open (pending_of s)) groups (cut_of untyped_layout bytes)

-- a log's state, except that entries for which no list waits may still stand before the others
pub record IsUntrimmed (s : Store) : Type 0 where
  pub sound : IsSound s.places
  pub backed : AreBacked s.datagrams (entries_of s.places)

-- the smallest place stands at the first entry, and the spans of the entries name the kept datagrams
pub record IsTrimmedAndBacked (s : Store) : Type 0 where
  pub trimmed : IsTrimmed s.places
  pub backed : AreBacked s.datagrams (entries_of s.places)

-- the kept entries, each as its delivery, with its route
abbrev pub entries_read : Store → List (Entry Delivery)
entries_read s = map (entry_read (span_bytes s.datagrams)) (entries_of s.places)

-- the number of kept entries
abbrev pub entry_count : Store → ℕ
entry_count s = length (entries_of s.places)

-- the number of kept bytes of datagrams
abbrev pub byte_count : Store → ℕ
byte_count s = bytes_of s.datagrams

-- ---- the entries that a call adds

-- the number of these bytes that are kept, if so many spans name them: all or none
abbrev pub kept_with : ℕ → List ℕ → ℕ
kept_with zero bytes = 0
kept_with (suc n) bytes = length bytes

-- these entries follow the others; each has a receiver, and the bytes are kept if one of the entries is a span of them
pub record Keeps (before after : Store) (bytes : List ℕ) (es : List (Entry Content)) : Type 0 where
  pub entries : entries_of after.places ≡ entries_of before.places ++ es
  pub readers : HaveReaders (items_of before.places) es
  pub counted : byte_count after ≡ byte_count before + kept_with (length (spans_of es)) bytes

-- entries follow the others, as `Keeps` states
abbrev pub KeepsEntries : Store → Store → List ℕ → Type 0
KeepsEntries before after bytes = (es : List (Entry Content)) × Keeps before after bytes es

-- the deliveries of `ds` that have a receiver follow the other entries: each once, in the same order, and nothing else
abbrev pub KeepsEachOnce : Store → Store → List (Entry Delivery) → Type 0
KeepsEachOnce before after ds = (added : List (Entry Delivery)) × AreAwaited (pending_of before) ds added
    × (entries_read after ≡ entries_read before ++ added)

-- no more entries and no more bytes are kept than before
abbrev pub KeepsNoMore : Store → Store → Type 0
KeepsNoMore before after = (entry_count after ≤ entry_count before) × (byte_count after ≤ byte_count before)

-- entries and bytes are as they were
abbrev pub IsAsBefore : Store → Store → Type 0
IsAsBefore before after = (entries_of after.places ≡ entries_of before.places) × (byte_count after ≡ byte_count before)
