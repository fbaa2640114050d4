-- Dumps as they grow, as neli_kernel says it of its own, and as they are handed out.
use Rattle.std.specs.Prelude.{◌≡◌, ◌≢◌, ◌⊎◌, ℕ, ◌+◌, ℤ, true, false, nat_le, if◌then◌else◌, List, [], length}
use Rattle.std.specs.Prelude.{slice_get, Option, Some, None, Result, Ok, Err}
use Rattle.neli_wire.specs.declared.errors.DeError.{DeError}
use Rattle.neli_wire.specs.declared.errors.SerError.{SerError}
use Rattle.neli_wire.specs.Writing.{Wire}
use Rattle.neli_reader.specs.Answers.{Attributes, ext_ack_in}
use Rattle.neli_reader.specs.Headers.{flags_of}
use Rattle.neli_kernel.specs.Answers.{message_or_refusal}
use Rattle.neli_kernel.specs.Dumps.{Packed, begun, datagrams_of, dump_end, dump_message, packed_in, put_wire}
use Rattle.neli_kernel.specs.declared.request.Request.{Request}
use Rattle.neli_c_parts.specs.declared.dumping.Dumping.{Dumping}
use Rattle.neli_c_parts.specs.declared.asking.NeliRequest.{NeliRequest}
use Rattle.neli_c_parts.specs.Asked.{IsAsked, ser_code}
use Rattle.neli_c_parts.specs.Codes.{item, memory, ok, room, state, waits}
use Rattle.neli_c_parts.specs.Walks.{refusal_code}
use Rattle.neli_c_parts.specs.Writes.{put_first}

-- the datagrams so far: those that are full, and the last one
abbrev pub packed : Dumping → Packed
packed d = packed_in d.dump

-- a new dump that answers this request, without a message, whose datagrams have at most so many bytes
abbrev pub IsNewDump : NeliRequest → ℕ → Dumping → Type 0
IsNewDump r limit d =
    IsAsked r [] d.dump.request × (d.dump.limit ≡ limit) × (packed d ≡ ([], [])) × (d.is_finished ≡ false)
    × (d.given ≡ 0)

-- request, limit and what was handed out are the same
abbrev pub SameDump : Dumping → Dumping → Type 0
SameDump s t = (t.dump.request ≡ s.dump.request) × (t.dump.limit ≡ s.dump.limit) × (t.given ≡ s.given)

-- why nothing is put: memory ran out, or this is refused
abbrev pub RefusesWith : {A : Type 0} → ℤ → Result A SerError → Type 0
RefusesWith code outcome = (code ≡ memory) ⊎ ((e : SerError) × (outcome ≡ Err e) × (code ≡ ser_code e))

-- a message of these bytes is put behind the last one or into the next datagram; or why not, and the datagrams are the
-- same
abbrev pub PutsWire : ℤ → Wire → Dumping → Dumping → Type 0
PutsWire code wire s t =
    SameDump s t
    × (code ≡ ok → put_wire s.dump.limit wire (packed s) ≡ Ok (packed t))
    × (code ≢ ok → (packed t ≡ packed s) × RefusesWith code (put_wire s.dump.limit wire (packed s)))

-- the same of a dump that has no end yet; one that has stays as it is
abbrev pub PutsMessage : ℤ → (Request → Wire) → Dumping → Dumping → Type 0
PutsMessage code wire s t =
    (s.is_finished ≡ true → (code ≡ state) × (t ≡ s))
    × (s.is_finished ≡ false → PutsWire code (wire s.dump.request) s t × (t.is_finished ≡ false))

-- a message of a dump, with MULTI, and one with these flags alone
abbrev pub dump_wire : ℕ → ℕ → List ℕ → Request → Wire
dump_wire message_type flags body asked =
    message_or_refusal {T = ℕ} {P = List ℕ} (λ n. n) (λ b. Ok b)
    (dump_message length asked message_type (flags_of flags) body)

-- the next datagram is begun; or memory ran out
abbrev pub BeginsDatagram : ℤ → Dumping → Dumping → Type 0
BeginsDatagram code s t =
    (s.is_finished ≡ true → (code ≡ state) × (t ≡ s))
    × (s.is_finished ≡ false → SameDump s t × (t.is_finished ≡ false)
    × (((code ≡ ok) × (packed t ≡ begun (packed s))) ⊎ ((code ≡ memory) × (packed t ≡ packed s))))

-- ---- the end

abbrev pub end_wire : ℕ → ℤ → Request → Attributes → Wire
end_wire flags error asked attrs = message_or_refusal (λ n. n) (λ b. Ok b) (dump_end asked (flags_of flags) error attrs)

-- the end is put in, with these attributes; or why they cannot be read
abbrev pub PutsEnd : ℤ → (Attributes → Wire) → Result Attributes DeError → Dumping → Dumping → Type 0
PutsEnd code wire (Ok attrs) s t = PutsWire code (wire attrs) s t
PutsEnd code wire (Err e) s t = (code ≢ ok) × ((code ≡ refusal_code e) ⊎ (code ≡ memory)) × (t ≡ s)

-- the same of a dump that has no end yet; it has one where it was put in
abbrev pub Finishes : ℤ → (Request → Attributes → Wire) → List ℕ → Dumping → Dumping → Type 0
Finishes code wire text s t =
    (s.is_finished ≡ true → (code ≡ state) × (t ≡ s))
    × (s.is_finished ≡ false → PutsEnd code (wire s.dump.request) (ext_ack_in text) s t
    × (code ≡ ok → t.is_finished ≡ true) × (code ≢ ok → t.is_finished ≡ false))

-- ---- handing out

-- the datagram is written where there is room, and is then handed out; or there is none any more
abbrev pub GivesDatagram : ℤ → Option (List ℕ) → Dumping → Dumping → List ℕ → List ℕ → ℕ → ℕ → Type 0
GivesDatagram code None s t old new size size' = (code ≡ ok) × (t ≡ s) × (new ≡ old) × (size' ≡ size)
GivesDatagram code (Some d) s t old new size size' =
    (size' ≡ length d) × (code ≡ (if nat_le (length d) (length old) then item else room))
    × (code ≡ item → (new ≡ put_first d old) × (t ≡ record s { given = s.given + 1 }))
    × (code ≢ item → (new ≡ old) × (t ≡ s))

-- the same of a dump that has its end; before there is a wait
abbrev pub HandsOut : ℤ → Dumping → Dumping → List ℕ → List ℕ → ℕ → ℕ → Type 0
HandsOut code s t old new size size' =
    (s.is_finished ≡ false → (code ≡ waits) × (t ≡ s) × (new ≡ old) × (size' ≡ size))
    × (s.is_finished ≡ true
    → GivesDatagram code (slice_get (datagrams_of (packed s)) s.given) s t old new size size')
