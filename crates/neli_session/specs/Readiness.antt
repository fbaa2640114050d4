-- Which requests have something to read, and in which order they stand.
use Rattle.std.specs.Prelude.{◌≡◌, ⊤, ℕ, Bool, true, false, ◌&&◌, ◌||◌, ◌==◌, if◌then◌else◌, List, [], ◌∷◌, ◌++◌, Option, Some, None, IfSome, IsNone, is_some}
use Rattle.std.specs.Option.{option_map}
use Rattle.neli_wire.specs.declared.errors.DeError.{DeError}
use Rattle.neli_lent.specs.Messages.{Lent, messages_in}
use Rattle.neli_session.specs.declared.change.Change.TheVariants as change
use Rattle.neli_session.specs.declared.entry.Entry.{Entry}
use Rattle.neli_session.specs.declared.line.Line.{Line}
use Rattle.neli_session.specs.declared.line.Place.{Place}
use Rattle.neli_session.specs.declared.loss.Loss.TheVariants as loss
use Rattle.neli_session.specs.declared.reading.Reader.{Reader}
use Rattle.neli_session.specs.declared.reading.Reader.TheVariants as reader
use Rattle.neli_session.specs.declared.request.Request.{Request}
use Rattle.neli_session.specs.declared.turn.Turn.{Turn}
use Rattle.neli_session.specs.Lines.{SameLinks, SameRequests, Stand, has_place, is_in, without}
use Rattle.neli_session.specs.Messages.{messages_of}
use Rattle.neli_session.specs.Requests.{next_item, of_number}
use Rattle.neli_session.specs.Sessions.{after, after_all, after_own, has_ended, is_own, kept, takes, when}
use Rattle.neli_session.specs.Waiting.{Item}

-- somebody reads it, and a read returns an item, a loss or the end
abbrev pub is_ready : Request → Bool
is_ready r = r.is_open && (is_some (next_item r) || has_ended r)

-- the same of the request with a number, if it is in use
abbrev pub ready_at : Option Request → Bool
ready_at None = false
ready_at (Some r) = is_ready r

-- something waits in a queue that is kept
abbrev pub has_some : Option (List Item) → Bool
has_some None = false
has_some (Some []) = false
has_some (Some (x ∷ xs)) = true

-- a read of this reader returns an item, a loss or the end
abbrev pub is_reader_ready : Option (List Item) → Option (List Item) → (ℕ → Option Request) → Reader → Bool
is_reader_ready multicast unasked requests (reader.Request q) = ready_at (requests q)
is_reader_ready multicast unasked requests reader.Multicast = has_some multicast
is_reader_ready multicast unasked requests reader.Unasked = has_some unasked

-- ---- the order

-- a line after the number has something to read, or has nothing: it joins at the end where it did not stand, or leaves
abbrev pub settled_in : Bool → ℕ → List ℕ → List ℕ
settled_in true n ns = if is_in n ns then ns else ns ++ n ∷ []
settled_in false n ns = without n ns

-- a line after the number was read: it goes to the end, if it has more to read, or leaves
abbrev pub read_in : Bool → ℕ → List ℕ → List ℕ
read_in true n ns = without n ns ++ n ∷ []
read_in false n ns = without n ns

-- the requests with these numbers, after one of them became that
abbrev pub with_at : ℕ → Option Request → (ℕ → Option Request) → ℕ → Option Request
with_at n o requests q = if n == q then o else requests q

-- a line after a message of this group, or of none, that came with its number
abbrev pub line_by : ℕ → Lent ℕ → (ℕ → Option Request) → List ℕ → List ℕ
line_by group m requests ns =
    if takes group (requests m.0.sequence_number)
    then settled_in (ready_at (after_own group m (requests m.0.sequence_number))) m.0.sequence_number ns
    else ns

-- after a message from the link, by the session's port
abbrev pub line_after : ℕ → ℕ → Lent ℕ → (ℕ → Option Request) → List ℕ → List ℕ
line_after port group m requests ns = if is_own port m then line_by group m requests ns else ns

-- after these messages, in order
abbrev pub line_after_all : ℕ → ℕ → List (Lent ℕ) → (ℕ → Option Request) → List ℕ → List ℕ
line_after_all port group [] requests ns = ns
line_after_all port group (m ∷ ms) requests ns =
    line_after_all port group ms (λ q. after port group m q (requests q)) (line_after port group m requests ns)

-- after this happened to the requests with these numbers, in order
abbrev pub line_among : List ℕ → (Option Request → Option Request) → (ℕ → Option Request) → List ℕ → List ℕ
line_among [] f requests ns = ns
line_among (n ∷ more) f requests ns =
    line_among more f (λ q. if n == q then f (requests q) else requests q) (settled_in (ready_at (f (requests n))) n ns)

-- after the rest of a datagram, which cannot be read, was lost for these requests
abbrev pub line_rest : Option DeError → List ℕ → (ℕ → Option Request) → List ℕ → List ℕ
line_rest None awaited requests ns = ns
line_rest (Some e) awaited requests ns = line_among awaited (when (change.Lose loss.Datagram)) requests ns

-- after a datagram of this group, or of none: its messages, and the loss of what cannot be read
abbrev pub line_received : ℕ → ℕ → List ℕ → List ℕ → (ℕ → Option Request) → List ℕ → List ℕ
line_received port group datagram awaited requests ns =
    line_rest (messages_in {K = ℕ} (λ n. n) datagram).1 awaited
    (λ q. after_all port group (messages_of datagram) q (requests q))
    (line_after_all port group (messages_of datagram) requests ns)

-- ---- how it is kept

-- these numbers stand in line, and they are those of the requests that have something to read
pub record AreInLine (l : Line) (ns : List ℕ) : Type 0 where
  pub stand : Stand l ns
  pub ready : (q : ℕ) → is_in q ns ≡ ready_at (of_number q l.places.entries)

-- what became of a request: whether it has something to read, and whether its number is in use
pub record IsTurned (new : Option Request) (t : Turn) : Type 0 where
  pub is : t.is_ready ≡ ready_at new
  pub stays : t.stays ≡ is_some (kept new)

-- what a change made of a request: whether it had something to read, and what became of it
pub record IsTurn (old new : Option Request) (t : Turn) : Type 0 where
  pub was : t.was_ready ≡ ready_at old
  pub turned : IsTurned new t

-- the request with a number, if there is one, was changed so
pub record Turns (n : ℕ) (f : Request → Request) (t : Option Turn) (old new : List (ℕ × Place)) : Type 0 where
  pub there : is_some t ≡ is_some (of_number n old)
  pub none : IsNone t → SameRequests old new
  pub turn : IfSome t (IsTurn (of_number n old) (of_number n new))
  pub own : of_number n new ≡ option_map f (of_number n old)
  pub others : (q : ℕ) → (n == q) ≡ false → of_number q new ≡ of_number q old
  pub links : SameLinks old new

-- a number was put into line, or taken out, by whether it stood there and is to
abbrev pub Shifts : ℕ → Bool → Bool → Line → Line → Type 0
Shifts n was is old new =
    (ns : List ℕ) → Stand old ns → is_in n ns ≡ was → has_place n old.places.entries ≡ true
    → Stand new (settled_in is n ns)

-- the same after a read
abbrev pub Reads : ℕ → Bool → Bool → Line → Line → Type 0
Reads n was is old new =
    (ns : List ℕ) → Stand old ns → is_in n ns ≡ was → has_place n old.places.entries ≡ true → Stand new (read_in is n ns)

-- none of these requests stands in line
abbrev pub AreAway : List Entry → List ℕ → Type 0
AreAway [] line = ⊤
AreAway (e ∷ es) line = (is_in e.number line ≡ false) × AreAway es line
