-- The delivery that an entry is.
use Rattle.std.specs.Prelude.{◌≡◌, ℕ, List, [], ◌∷◌, ◌++◌, slice_range, Some, Ok, Err}
use Rattle.std.specs.List.{slice_get}
use Rattle.neli_wire.specs.Bytes.{Reading}
use Rattle.neli_wire.specs.Frames.{frame_at}
use Rattle.neli_reader.specs.Agreement.{untyped_layout}
use Rattle.neli_reader.specs.SocketError.TheVariants as socket
use Rattle.neli_lent.specs.Spans.{IsSpan}
use Rattle.neli_deliveries.specs.declared.delivery.Delivery.{Delivery}
use Rattle.neli_deliveries.specs.declared.delivery.Delivery.TheVariants as delivery
use Rattle.neli_deliveries.specs.Deliveries.{Untyped, message, stray}
use Rattle.neli_log.specs.declared.entry.Entry.{Entry}
use Rattle.neli_log.specs.Routes.{entry}
use Rattle.neli_log.specs.declared.span.Span.{Span}
use Rattle.neli_log.specs.declared.datagrams.Datagrams.{Datagrams}
use Rattle.neli_log.specs.Spans.{IsNamed, SpansName, span_bytes}
use Rattle.neli_log.specs.declared.content.Content.{Content}
use Rattle.neli_log.specs.declared.content.Content.TheVariants as content

-- the delivery in the bytes of a message; the fault of bytes that are no message, which are never kept
abbrev pub delivery_read : (Untyped → Delivery) → Reading Untyped → Delivery
delivery_read kind (Ok p) = kind p.0
delivery_read kind (Err e) = delivery.Fault (socket.De e)

-- the delivery of an entry, where `part` gives the bytes of its span
abbrev pub delivery_of : (Span → List ℕ) → Content → Delivery
delivery_of part (content.Message s) = delivery_read message (frame_at untyped_layout (part s))
delivery_of part (content.Stray s) = delivery_read stray (frame_at untyped_layout (part s))
delivery_of part (content.Fault b) = delivery.Fault b.value

-- an entry as its delivery, with its route
abbrev pub entry_read : (Span → List ℕ) → Entry Content → Entry Delivery
entry_read part e = entry (delivery_of part e.item) e.route

-- the span of an entry that has one
abbrev pub span_of : Content → List Span
span_of (content.Message s) = s ∷ []
span_of (content.Stray s) = s ∷ []
span_of (content.Fault b) = []

-- the spans of entries, in their order
abbrev pub spans_of : List (Entry Content) → List Span
spans_of [] = []
spans_of (e ∷ es) = span_of e.item ++ spans_of es

-- each span is a message that can be read untyped
abbrev pub AreMessages : (Span → List ℕ) → List Span → Type 0
AreMessages part ss = (i : ℕ) (s : Span) → slice_get ss i ≡ Some s → IsSpan (part s)

-- the spans of these entries name the kept datagrams, and each is a message
pub record AreBacked (kept : Datagrams) (es : List (Entry Content)) : Type 0 where
  pub names : SpansName kept (spans_of es)
  pub messages : AreMessages (span_bytes kept) (spans_of es)

-- the bytes of a span of these bytes
abbrev pub part_of : List ℕ → Span → List ℕ
part_of bytes s = slice_range bytes s.start s.end

-- an entry can be read: its span, if it has one, is named and a message
abbrev pub IsReadable : Datagrams → Content → Type 0
IsReadable kept (content.Message s) = IsNamed kept s × IsSpan (span_bytes kept s)
IsReadable kept (content.Stray s) = IsNamed kept s × IsSpan (span_bytes kept s)
IsReadable kept (content.Fault b) = Unit {0}
