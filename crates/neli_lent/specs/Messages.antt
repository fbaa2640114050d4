-- Messages with lent payloads: the bytes that they were read from.
use Rattle.std.specs.Prelude.{ℕ, ℤ, pos, ◌||◌, ◌==◌, nat_lt, if◌then◌else◌, List, length, Result, Ok}
use Rattle.neli_wire.specs.Bytes.{Reading}
use Rattle.neli_wire.specs.declared.errors.DeError.{DeError}
use Rattle.neli_wire.specs.Frames.{Layout}
use Rattle.neli_wire.specs.Reading.{◌>>=◌}
use Rattle.neli_reader.specs.Answers.{code_in}
use Rattle.neli_reader.specs.Cuts.{Cut, cut_of}
use Rattle.neli_reader.specs.Headers.{Header}
use Rattle.neli_reader.specs.Kind.{Kind}
use Rattle.neli_reader.specs.Kinds.{kind_of, payload_in, payload_takes_memory}
use Rattle.neli_reader.specs.Messages.{Message, layout_with}
use Rattle.neli_lent.specs.declared.message.LentMessage.{LentMessage}

-- a message as read: its header and its payload's bytes
abbrev pub Lent : Type 0 → Type 0
Lent K = Header K × List ℕ

-- this message's header and payload
abbrev pub message_view : {K : Type 0} → LentMessage K → Lent K
message_view m = (m.header, m.payload.now)

-- their layout: that of messages, each with its payload's bytes whatever its kind
abbrev pub lent_message : {K : Type 0} → (ℕ → K) → Layout (Header K) (List ℕ)
lent_message type_of = layout_with type_of (λ _ bytes. Ok bytes)

-- the rest of a datagram: messages, and the fault after them
unfoldable pub messages_in : {K : Type 0} → (ℕ → K) → List ℕ → Cut (Lent K)
messages_in type_of s = cut_of (lent_message type_of) s

-- the code at the front of bytes, 0 or the negated number of an error; 0 if there are too few
abbrev pub code_or_zero : List ℕ → ℤ
code_or_zero s = if nat_lt (length s) 4 then pos 0 else code_in s

-- a message's code: that of an error or an acknowledgement (NLMSG_ERROR, 2), or of the end of a dump (NLMSG_DONE, 3)
abbrev pub code_of : Lent ℕ → ℤ
code_of m = if (m.0.message_type == 2) || (m.0.message_type == 3) then code_or_zero m.1 else pos 0

-- what a message's payload is
abbrev pub lent_kind : {K : Type 0} → (K → ℕ) → Lent K → Kind
lent_kind number_of m = kind_of (number_of m.0.message_type) m.0.flags m.1

-- ---- as an owned message

-- a lent message as an owned one, its payload read by its kind and a body as `read` does; or that refusal
abbrev pub as_owned : {K V : Type 0} → (ℕ → K) → (K → ℕ) → (List ℕ → Result V DeError) → Lent K
    → Result (Message K V) DeError
as_owned type_of number_of read m =
    payload_in type_of read (number_of m.0.message_type) m.0.flags m.1 >>= λ p. Ok (m.0, p)

-- the same as a reading, where r follows the message
abbrev pub owned_reading : {K V : Type 0} → (ℕ → K) → (K → ℕ) → (List ℕ → Result V DeError) → Lent K → List ℕ
    → Reading (Message K V)
owned_reading type_of number_of read m r = as_owned type_of number_of read m >>= λ owned. Ok (owned, r)

-- where reading that payload takes memory
abbrev pub as_owned_takes_memory : {K V : Type 0} → (K → ℕ) → (List ℕ → Result V DeError) → (List ℕ → Type 0)
    → Lent K → Type 0
as_owned_takes_memory number_of read takes m =
    payload_takes_memory read takes (number_of m.0.message_type) m.0.flags m.1
