-- A dump: messages with the flag MULTI, the end after them, and their datagrams (the kernel's `netlink_dump`).
use Rattle.std.specs.Prelude.{ℕ, ◌+◌, ◌<◌, ℤ, bit_or, List, [], ◌∷◌, ◌++◌}
use Rattle.std.specs.Prelude.{codes, length, map, nat_lt, if◌then◌else◌, Result, Ok, Err}
use Rattle.neli_wire.specs.Refusals.{IsRefusal, ser_ran_out}
use Rattle.neli_wire.specs.declared.errors.SerError.{SerError}
use Rattle.neli_wire.specs.declared.errors.SerError.TheVariants as ser
use Rattle.neli_wire.specs.Writing.{Wire}
use Rattle.neli_consts.specs.declared.nlm_f.NlmF.{NlmF}
use Rattle.neli_reader.specs.Answers.{Attributes, answer}
use Rattle.neli_reader.specs.Headers.{flags_of}
use Rattle.neli_reader.specs.Framed.{Nlmsghdr}
use Rattle.neli_reader.specs.NlPayload.TheVariants as payload
use Rattle.neli_kernel.specs.Answers.{answer_flags, message_or_refusal, message_with, reply}
use Rattle.neli_kernel.specs.declared.dump.Dump.{Dump}
use Rattle.neli_kernel.specs.declared.request.Request.{Request}

-- ---- messages

-- the flags with MULTI (2)
abbrev pub with_multi : NlmF → NlmF
with_multi flags = flags_of (bit_or flags.0 2)

-- one of the messages before the end
abbrev pub dump_message : {T P : Type 0} → (P → ℕ) → Request → T → NlmF → P → Nlmsghdr T P
dump_message size asked message_type flags body = reply size asked message_type (with_multi flags) body

-- the end, of type 3, NLMSG_DONE: a code, and attributes
abbrev pub dump_end : Request → NlmF → ℤ → Attributes → Nlmsghdr ℕ (List ℕ)
dump_end asked flags code attrs =
    message_with length 3 (answer_flags (with_multi flags) attrs) asked.header.sequence_number asked.port
    (payload.DumpExtAck (answer code tt attrs))

-- ---- datagrams

-- datagrams that are full, and the last one
abbrev pub Packed : Type 0
Packed = List (List ℕ) × List ℕ

-- those of a dump
abbrev pub packed_in : Dump → Packed
packed_in d = (map (λ v. v.items) d.full.items, d.last.items)

-- all of them
abbrev pub datagrams_of : Packed → List (List ℕ)
datagrams_of p = p.0 ++ p.1 ∷ []

-- one message more: after those of the last datagram, or, if it would exceed the limit there, in the next one
abbrev pub put : ℕ → List ℕ → Packed → Packed
put limit frame p = if nat_lt limit (length p.1 + length frame) then (datagrams_of p, frame) else (p.0, p.1 ++ frame)

-- the next datagram begins, unless the last one is empty
abbrev pub begun : Packed → Packed
begun (full, []) = (full, [])
begun (full, b ∷ last) = (datagrams_of (full, b ∷ last), [])

-- the same for a message's bytes, or why they are refused: it has none, or alone they exceed the limit
abbrev pub put_wire : ℕ → Wire → Packed → Result Packed SerError
put_wire limit (Ok frame) p = if nat_lt limit (length frame)
    then Err (ser.Msg (codes "Message does not fit a datagram")) else Ok (put limit frame p)
put_wire limit (Err e) p = Err e

-- e is why a message is refused; memory is taken if its length fits 32 bits
abbrev pub RefusesPut : {T P : Type 0} → ℕ → (T → ℕ) → (P → Wire) → Nlmsghdr T P → Packed → SerError → Type 0
RefusesPut limit number_of wire m p = IsRefusal ser_ran_out (put_wire limit (message_or_refusal number_of wire m) p)
    (m.header.len < 4294967296)

-- the datagrams, or this refusal
abbrev pub all_of : Result Packed SerError → Result (List (List ℕ)) SerError
all_of (Ok p) = Ok (datagrams_of p)
all_of (Err e) = Err e

-- the datagrams, with the end after the last message; or why there are none
abbrev pub finished : ℕ → Wire → Packed → Result (List (List ℕ)) SerError
finished limit end p = all_of (put_wire limit end p)
