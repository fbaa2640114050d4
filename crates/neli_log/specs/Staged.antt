-- The deliveries of a datagram, before any list changes.
use Rattle.std.specs.Prelude.{◌≡◌, ◌≤◌, ℕ, List, [], ◌++◌, map, Option, Some, None}
use Rattle.std.specs.List.{slice_get}
use Rattle.neli_wire.specs.declared.errors.DeError.{DeError}
use Rattle.neli_reader.specs.Agreement.{untyped_layout}
use Rattle.neli_reader.specs.Cuts.{Cut, cut_of}
use Rattle.neli_deliveries.specs.declared.delivery.Delivery.{Delivery}
use Rattle.neli_deliveries.specs.Deliveries.{Untyped}
use Rattle.neli_log.specs.declared.entry.Entry.{Entry}
use Rattle.neli_log.specs.Places.{HasReader}
use Rattle.neli_log.specs.Routes.{items_for}
use Rattle.neli_lent.specs.Spans.{Spells}
use Rattle.neli_log.specs.declared.span.Span.{Span}
use Rattle.neli_log.specs.Spans.{AreSpansOf}
use Rattle.neli_log.specs.declared.content.Content.{Content}
use Rattle.neli_log.specs.declared.next.Address.{Address}
use Rattle.neli_log.specs.Contents.{AreMessages, delivery_of, entry_read, part_of, spans_of}
use Rattle.neli_log.specs.Routed.{AreAwaited, datagram_routed, is_open}

-- the gain of a list from entries whose spans are of these bytes
abbrev pub deliveries_added : List ℕ → Option ℕ → List (Entry Content) → List Delivery
deliveries_added bytes w es = map (delivery_of (part_of bytes)) (items_for w es)

-- the rest of a datagram at a place: the cut of it, or only a fault
abbrev pub cut_left : List ℕ → Option DeError → Cut Untyped
cut_left rest None = cut_of untyped_layout rest
cut_left rest (Some e) = ([], Some e)

-- the deliveries of a cut that arrived for these groups, with their routes, if these lists are open
abbrev pub entries_due : ℕ → (Option ℕ → Option (List Content)) → List ℕ → Cut Untyped → List (Entry Delivery)
entries_due port pending groups cut = datagram_routed port (is_open pending) groups cut

-- each entry has a receiver
abbrev pub HaveReaders : (Option ℕ → Option (List Content)) → List (Entry Content) → Type 0
HaveReaders pending es = (i : ℕ) (e : Entry Content) → slice_get es i ≡ Some e → HasReader pending e.route

-- the entries, whose spans are of these bytes, are the deliveries of `cut` before `rest` that have a receiver: each
-- once, in the same order
abbrev pub AreDueBefore : (Option ℕ → Option (List Content)) → ℕ → List ℕ → List ℕ → Cut Untyped
    → List (Entry Content) → Cut Untyped → Type 0
AreDueBefore pending port bytes groups cut es rest = (before : List (Entry Delivery))
    × (before ++ entries_due port pending groups rest ≡ entries_due port pending groups cut)
    × AreAwaited pending before (map (entry_read (part_of bytes)) es)

-- the entries are those due before `rest`; their spans are messages of the first `at` bytes, in their order; and each
-- has a receiver
pub record AreStaged (pending : Option ℕ → Option (List Content)) (port serial : ℕ) (bytes groups : List ℕ)
    (cut : Cut Untyped) (es : List (Entry Content)) (at : ℕ) (rest : Cut Untyped) : Type 0 where
  pub each : AreDueBefore pending port bytes groups cut es rest
  pub spans : AreSpansOf serial at (spans_of es)
  pub messages : AreMessages (part_of bytes) (spans_of es)
  pub readers : HaveReaders pending es

-- the span is this message, after the first `at` bytes of the datagram with this serial number, and has this address
pub record IsFound (serial at : ℕ) (bytes : List ℕ) (s : Span) (u : Untyped) (a : Address) : Type 0 where
  pub datagram : s.datagram ≡ serial
  pub after : at ≤ s.start
  pub ordered : s.start ≤ s.end
  pub spells : Spells (part_of bytes s) u
  pub number : a.number ≡ u.0.sequence_number
  pub port : a.port ≡ u.0.port
