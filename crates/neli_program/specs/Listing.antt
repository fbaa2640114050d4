-- The printed text of a datagram.
use Rattle.std.specs.Prelude.{◌≡◌, ◌≢◌, ◌⊎◌, ◌<◌, ℕ, ℤ, List, ◌++◌, length, take, codes, Option, Some, None, Result, Ok}
use Rattle.std.specs.Prelude.{nat_eq, if◌then◌else◌}
use Rattle.std.specs.List.{flat_map}
use Rattle.std.specs.Fmt.{decimal, signed_decimal}
use Rattle.neli_wire.specs.declared.errors.DeError.{DeError}
use Rattle.neli_wire.specs.declared.errors.DeError.TheVariants as de
use Rattle.neli_wire.specs.Frames.{AreFrames, frame_at, frame_takes_memory}
use Rattle.std.specs.declared.io.ErrorKind.TheVariants.{UnexpectedEof}
use Rattle.neli_lent.specs.Messages.{Lent, lent_message}
use Rattle.neli_reader.specs.NlPayload.{NlPayload}
use Rattle.neli_reader.specs.NlPayload.TheVariants as payload
use Rattle.neli_reader.specs.Agreement.{untyped_layout}
use Rattle.neli_reader.specs.Headers.{Header}
use Rattle.neli_reader.specs.Messages.{Message, message_takes_memory}
use Rattle.neli_reader.specs.Cuts.{Cut, cut_of}
use Rattle.neli_program.specs.declared.line.Heading.{Heading}
use Rattle.neli_program.specs.declared.line.Kind.{Kind}
use Rattle.neli_program.specs.declared.line.Line.{Line}
use Rattle.neli_program.specs.declared.line.Kind.TheVariants as kind
use Rattle.neli_program.specs.declared.line.Ending.{Ending}
use Rattle.neli_program.specs.declared.line.Ending.TheVariants.{Whole, Input, Short, Other, Memory}
use Rattle.neli_program.specs.Lines.{hex4}

-- a payload as the program reads it: bytes
abbrev pub RawPayload : Type 0
RawPayload = NlPayload ℕ (List ℕ)

-- a message as the program reads it: its type is a number
abbrev pub Raw : Type 0
Raw = Message ℕ (List ℕ)

-- the text of an answer: its kind, its code, and the number of its attributes
abbrev pub count_text : List ℕ → ℤ → ℕ → List ℕ
count_text kind code count = kind ++ (signed_decimal code ++ (codes " attributes " ++ decimal count))

-- the text of a kind
abbrev pub kind_text : Kind → List ℕ
kind_text (kind.Payload count) = codes "payload " ++ decimal count
kind_text (kind.Ack count) = if nat_eq count 0 then codes "ack" else codes "ack attributes " ++ decimal count
kind_text (kind.Capped code count) = count_text (codes "capped ") code count
kind_text (kind.Error code count) = count_text (codes "error ") code count
kind_text (kind.Done code count) = count_text (codes "done ") code count
kind_text kind.Empty = codes "empty"

-- the kind of a payload, with the number of its bytes or attributes
abbrev pub kind_in : RawPayload → Kind
kind_in (payload.Payload bytes) = kind.Payload (length bytes)
kind_in (payload.Ack e) = kind.Ack (length e.ext_ack)
kind_in (payload.Capped e) = kind.Capped e.error (length e.ext_ack)
kind_in (payload.Err e) = kind.Error e.error (length e.ext_ack)
kind_in (payload.DumpExtAck e) = kind.Done e.error (length e.ext_ack)
kind_in payload.Empty = kind.Empty

-- the text of a header
abbrev pub heading_text : Heading → List ℕ
heading_text h =
    codes "type " ++ decimal h.message_type
    ++ codes " flags 0x" ++ hex4 h.flags
    ++ codes " number " ++ decimal h.number
    ++ codes " port " ++ decimal h.port

-- the printed parts of a header
abbrev pub heading_in : Header ℕ → Heading
heading_in h = record { message_type = h.message_type; flags = h.flags.0; number = h.sequence_number; port = h.port }

-- the line of a message
abbrev pub line_in : Raw → Line
line_in m = record { heading = heading_in m.0; kind = kind_in m.1 }

-- the text of a line
abbrev pub line_text : Line → List ℕ
line_text l = heading_text l.heading ++ (codes " " ++ kind_text l.kind)

-- the text of a message's line
abbrev pub line_of : Raw → List ℕ
line_of m = line_text (line_in m)

-- a line for each message
abbrev pub lines_of : List Raw → List ℕ
lines_of = flat_map (λ m. line_of m ++ codes "\n")

-- the cut of a datagram into such messages
abbrev pub raw_cut : List ℕ → Cut Raw
raw_cut = cut_of untyped_layout

-- how a listing ends, by the fault of its datagram
abbrev pub ending_of : Option DeError → Ending
ending_of None = Whole
ending_of (Some (de.InvalidInput n)) = Input n
ending_of (Some (de.Io UnexpectedEof)) = Short
ending_of (Some e) = Other

-- how it ends if the next line is refused with e
abbrev pub ending_by : DeError → Ending
ending_by de.Memory = Memory
ending_by e = ending_of (Some e)

-- the line is that of the message that is read
abbrev pub IsLineOf : Result Raw DeError → Line → Type 0
IsLineOf reading line = (m : Raw) × (reading ≡ Ok m) × (line ≡ line_in m)

-- the bytes are a message with this line, and then the later ones
abbrev pub BeginsWith : List ℕ → Line → List ℕ → Type 0
BeginsWith bytes line later = (m : Raw) × (frame_at untyped_layout bytes ≡ Ok (m, later)) × (line ≡ line_in m)

-- they begin with a message that has its padding, and whose payload is a body by its type alone
abbrev pub BeginsWithBody : List ℕ → Type 0
BeginsWithBody bytes = (m : Lent ℕ) × (rest : List ℕ) × (frame_at (lent_message (λ n. n)) bytes ≡ Ok (m, rest))
    × (m.0.message_type ≢ 2) × (m.0.message_type ≢ 3)

-- ---- what takes memory

-- reading the message at the front of the bytes takes memory, with a body as its bytes
abbrev pub reading_takes_memory : List ℕ → Type 0
reading_takes_memory =
    frame_takes_memory untyped_layout (message_takes_memory (λ n. n) (λ b. Ok b) (λ b. 0 < length b))

-- its line takes memory: a body that has its padding is not copied
abbrev pub line_takes_memory : List ℕ → Type 0
line_takes_memory bytes = reading_takes_memory bytes × (¬ BeginsWithBody bytes)

-- the datagram is the frames of its first k messages, and then bytes whose line takes memory
abbrev pub TakesMemoryAfter : ℕ → List ℕ → Type 0
TakesMemoryAfter k bytes = (front : List ℕ) × (left : List ℕ) × (bytes ≡ front ++ left)
    × AreFrames untyped_layout front (take k (raw_cut bytes).0) × line_takes_memory left

-- ---- the listing

-- after the first k messages of a cut there is another, or a fault
abbrev pub GoesOnAfter : ℕ → Cut Raw → Type 0
GoesOnAfter k cut = (k < length cut.0) ⊎ (cut.1 ≢ None)

-- the lines are those of the datagram's messages, and the ending that of its fault; or memory ran out at a
-- message or a fault that takes some, and the lines are those of all messages before it
abbrev pub Lists : List ℕ → List ℕ → Ending → Type 0
Lists bytes lines Memory =
    (k : ℕ) × GoesOnAfter k (raw_cut bytes) × TakesMemoryAfter k bytes × (lines ≡ lines_of (take k (raw_cut bytes).0))
Lists bytes lines e = (lines ≡ lines_of (raw_cut bytes).0) × (e ≡ ending_of (raw_cut bytes).1)
