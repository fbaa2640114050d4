-- A datagram read and written again: itself, with zeros for its padding.
use Rattle.std.specs.Prelude.{ℕ, zero, suc, ◌+◌, ◌-◌, ◌≤◌, ⊤, List, [], ◌∷◌, ◌++◌, length, take, drop, replicate, Ok}
use Rattle.neli_wire.specs.Frames.{number_in}
use Rattle.neli_wire.specs.Sizes.{align}
use Rattle.neli_wire.specs.Writing.{Wire, wire_all}
use Rattle.neli_msg.specs.declared.kind.Kind.{Kind}
use Rattle.neli_msg.specs.declared.kind.Kind.TheVariants.{DumpEnd, Acknowledgement, Capped, Failure}
use Rattle.neli_msg.specs.declared.kind.Tail.{Tail}
use Rattle.neli_msg.specs.declared.kind.Tail.TheVariants.{Unread, Attributes as Listed}
use Rattle.neli_msg.specs.declared.payload.NlPayload.{NlPayload}
use Rattle.neli_msg.specs.declared.payload.NlPayload.TheVariants as payload
use Rattle.neli_msg.specs.Answers.{echo_end, echoed_count, tail_at}
use Rattle.neli_msg.specs.Headers.{flags_of}
use Rattle.neli_msg.specs.Kinds.{kind_of, tail_of}
use Rattle.neli_msg.specs.Messages.{Message, message_from}
use Rattle.neli_msg.specs.Wires.{message_wire}

-- ---- bytes

-- the bytes with zeros from place n on
abbrev pub zeros_from : ℕ → List ℕ → List ℕ
zeros_from n s = take n s ++ replicate (length s - n) 0

-- a list of frames that begin with their lengths, with `zeroed` in place of each; at most `fuel` frames
unfoldable pub frames_by : (List ℕ → ℕ) → (List ℕ → List ℕ) → ℕ → List ℕ → List ℕ
frames_by stated zeroed fuel [] = []
frames_by stated zeroed zero (b ∷ s) = b ∷ s
frames_by stated zeroed (suc fuel) (b ∷ s) =
    let n = align (stated (b ∷ s)) in
    zeroed (take n (b ∷ s)) ++ frames_by stated zeroed fuel (drop n (b ∷ s))

-- the same for all frames
abbrev pub frames_zeroed : (List ℕ → ℕ) → (List ℕ → List ℕ) → List ℕ → List ℕ
frames_zeroed stated zeroed s = frames_by stated zeroed (length s) s

-- ---- attributes

-- the length that an attribute states
abbrev pub attribute_length : List ℕ → ℕ
attribute_length s = number_in 2 0 s

-- an attribute: the bytes after its length are padding
abbrev pub attribute_zeroed : List ℕ → List ℕ
attribute_zeroed frame = zeros_from (attribute_length frame) frame

-- a list of attributes, each with zeros for its padding
abbrev pub attributes_zeroed : List ℕ → List ℕ
attributes_zeroed = frames_zeroed attribute_length attribute_zeroed

-- ---- payloads

-- where the attributes of each kind begin
abbrev pub attributes_at : Kind → List ℕ → ℕ
attributes_at DumpEnd s = 4
attributes_at (Acknowledgement tail) s = tail_at tail s
attributes_at (Capped tail) s = tail_at tail s
attributes_at Failure s = echo_end s
attributes_at kind s = length s

-- where the padding before them begins, which is that of an echoed payload
abbrev pub padding_at : Kind → List ℕ → ℕ
padding_at Failure s = 20 + echoed_count s
padding_at kind s = attributes_at kind s

-- a payload: zeros for the padding of an echoed payload, and for that of attributes
abbrev pub payload_zeroed : Kind → List ℕ → List ℕ
payload_zeroed kind s =
    zeros_from (padding_at kind s) (take (attributes_at kind s) s) ++ attributes_zeroed (drop (attributes_at kind s) s)

-- ---- messages

-- the length that a message states
abbrev pub message_length : List ℕ → ℕ
message_length s = number_in 4 0 s

-- a message: its header, its payload by its type and flags, and zeros after its length
abbrev pub message_zeroed : List ℕ → List ℕ
message_zeroed frame =
    let n = message_length frame in
    let body = take (n - 16) (drop 16 frame) in
    take 16 frame
    ++ payload_zeroed (kind_of (number_in 2 4 frame) (flags_of (number_in 2 6 frame)) body) body
    ++ replicate (length frame - n) 0

-- a datagram, which is the frames of messages
abbrev pub datagram_zeroed : List ℕ → List ℕ
datagram_zeroed = frames_zeroed message_length message_zeroed

-- ---- what is written

-- the bytes of an untyped message
abbrev pub untyped_wire : Message ℕ (List ℕ) → Wire
untyped_wire m = message_wire (λ n. n) (λ bytes. Ok bytes) (message_from m)

-- the bytes of all, one after the other
abbrev pub untyped_wires : List (Message ℕ (List ℕ)) → Wire
untyped_wires = wire_all untyped_wire

-- no byte of a message of this length is left unread after a header echoed alone, which is 20 bytes after the 16 of its
-- own header
abbrev pub IsAllRead : Tail → ℕ → Type 0
IsAllRead Unread len = len ≤ 36
IsAllRead Listed len = ⊤

-- the same for each payload
abbrev pub HasNoTailIn : Tail → ℕ → NlPayload ℕ (List ℕ) → Type 0
HasNoTailIn tail len (payload.Ack e) = IsAllRead tail len
HasNoTailIn tail len (payload.Capped e) = IsAllRead tail len
HasNoTailIn tail len p = ⊤

-- the same for a message
abbrev pub HasNoTail : Message ℕ (List ℕ) → Type 0
HasNoTail m = HasNoTailIn (tail_of m.0.flags) m.0.len m.1
