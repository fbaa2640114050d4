-- Answers: a code, what is answered, and attributes with details (`struct nlmsgerr` of linux/netlink.h).
use Rattle.std.specs.Prelude.{ℕ, ◌+◌, ◌-◌, ◌<◌, ◌≤◌, ◌⊎◌, ℤ, List, [], ◌++◌, codes}
use Rattle.std.specs.Prelude.{length, take, drop, map, Result, Ok, Err, IsOk, IsOkAnd, nat_lt, if◌then◌else◌}
use Rattle.std.specs.Fmt.{signed_decimal}
use Rattle.std.specs.Int.{w32}
use Rattle.neli_wire.specs.declared.errors.DeError.{DeError}
use Rattle.neli_wire.specs.declared.errors.DeError.TheVariants.{InvalidInput}
use Rattle.neli_wire.specs.Frames.{number_in}
use Rattle.neli_wire.specs.Numbers.{signed_number}
use Rattle.neli_wire.specs.Reading.{◌>>=◌}
use Rattle.neli_wire.specs.Sizes.{align}
use Rattle.neli_consts.specs.declared.nlmsg.NlmsgerrAttr.{NlmsgerrAttr}
use Rattle.neli_consts.specs.NlmsgerrAttr.{nlmsgerr_attr_of}
use Rattle.neli_attr.specs.Attributes.{Attr, attributes_in}
use Rattle.neli_attr.specs.TypeField.{type_of as field_of}
use Rattle.neli_attr.specs.AttrType.{AttrType}
use Rattle.neli_attr.specs.declared.nlattr.Nlattr.{Nlattr}
use Rattle.neli_msg.specs.Framed.{NlmsghdrErr}
use Rattle.neli_msg.specs.declared.answer.Nlmsgerr.{Nlmsgerr}
use Rattle.neli_msg.specs.declared.kind.Tail.{Tail}
use Rattle.neli_msg.specs.declared.kind.Tail.TheVariants.{Unread, Attributes as Listed}
use Rattle.neli_msg.specs.Headers.{Header, header_in}

-- ---- attributes

-- the attributes of an answer, with their payloads as bytes
abbrev pub Attributes : Type 0
Attributes = List (Nlattr NlmsgerrAttr (List ℕ))

-- an attribute that was read
abbrev pub attribute_of : Attr (AttrType NlmsgerrAttr) (List ℕ) → Nlattr NlmsgerrAttr (List ℕ)
attribute_of a = record { nla_len = a.0.len; nla_type = a.0.kind; nla_payload = a.1 }

-- the attributes that these bytes list
abbrev pub ext_ack_in : List ℕ → Result Attributes DeError
ext_ack_in s = attributes_in (field_of nlmsgerr_attr_of) s >>= λ attrs. Ok (map attribute_of attrs)

-- ---- parts

-- the bytes after the first n, which must exist
abbrev pub after : ℕ → List ℕ → Result (List ℕ) DeError
after n s = if nat_lt (length s) n then Err (InvalidInput (length s)) else Ok (drop n s)

-- the code: 0, or the negated number of an error
abbrev pub code_in : List ℕ → ℤ
code_in s = signed_number w32 4 s

-- an answer of this code, what it answers, and attributes
abbrev pub answer : {M : Type 0} → ℤ → M → Attributes → Nlmsgerr M
answer code answered attrs = record { error = code; nlmsg = answered; ext_ack = attrs }

-- the length that an echoed message states
abbrev pub echoed_length : List ℕ → ℕ
echoed_length s = number_in 4 4 s

-- the number of its payload's bytes
abbrev pub echoed_count : List ℕ → ℕ
echoed_count s = echoed_length s - 16

-- the payload of the echoed message
abbrev pub echoed_in : List ℕ → Result (List ℕ) DeError
echoed_in s =
    if nat_lt (echoed_length s) 16 then Err (InvalidInput (echoed_length s))
    else (if nat_lt (length s - 20) (echoed_count s) then Err (InvalidInput (echoed_count s))
    else Ok (take (echoed_count s) (drop 20 s)))

-- where the attributes of an error begin: after that payload and its padding
abbrev pub echo_end : List ℕ → ℕ
echo_end s = 20 + align (echoed_count s)

-- the attributes' bytes
abbrev pub after_echo : List ℕ → List ℕ
after_echo s = drop (echo_end s) s

-- the echoed message with this payload
abbrev pub echo_with : {K V : Type 0} → (ℕ → K) → List ℕ → V → NlmsghdrErr K V
echo_with type_of s v = record { header = header_in type_of (drop 4 s); payload = record { 0 = v } }

-- ---- answers

-- the end of a dump: a code, and attributes
abbrev pub dump_end_in : List ℕ → Result (Nlmsgerr (Unit {0})) DeError
dump_end_in s = do
  rest ← after 4 s
  attrs ← ext_ack_in rest
  Ok (answer (code_in s) tt attrs)

-- the attributes of a tail; none if it is not read
abbrev pub tail_in : Tail → List ℕ → Result Attributes DeError
tail_in Unread s = Ok []
tail_in Listed s = ext_ack_in s

-- reading a tail takes memory
abbrev pub tail_takes_memory : Tail → List ℕ → Type 0
tail_takes_memory Unread s = ⊥
tail_takes_memory Listed s = 0 < length s

-- where the attributes of an answer begin that echoes only a header
abbrev pub tail_at : Tail → List ℕ → ℕ
tail_at Unread s = length s
tail_at Listed s = 20

-- an answer that echoes only a header: a code, the header, and its tail
abbrev pub headed_in : {K : Type 0} → (ℕ → K) → Tail → List ℕ → Result (Nlmsgerr (Header K)) DeError
headed_in type_of tail s = do
  rest ← after 20 s
  attrs ← tail_in tail rest
  Ok (answer (code_in s) (header_in type_of (drop 4 s)) attrs)

-- such an answer alone, without the flags that decide its tail
abbrev pub acknowledgement_in : {K : Type 0} → (ℕ → K) → List ℕ → Result (Nlmsgerr (Header K)) DeError
acknowledgement_in type_of = headed_in type_of Unread

-- an error: a code, the message that it answers, and attributes; `read` is the reading of a body
abbrev pub failure_in : {K V : Type 0} → (ℕ → K) → (List ℕ → Result V DeError) → List ℕ
    → Result (Nlmsgerr (NlmsghdrErr K V)) DeError
failure_in type_of read s = do
  rest ← after 20 s
  body ← echoed_in s
  v ← read body
  attrs ← ext_ack_in (after_echo s)
  Ok (answer (code_in s) (echo_with type_of s v) attrs)

-- reading an error takes memory: for the echoed payload; or, if that is read, for attributes after it
abbrev pub failure_takes_memory : {V : Type 0} → (List ℕ → Result V DeError) → (List ℕ → Type 0) → List ℕ → Type 0
failure_takes_memory read takes s = (20 ≤ length s)
    × IsOkAnd (echoed_in s) (λ body. takes body ⊎ (IsOk (read body) × (0 < length (after_echo s))))

-- ---- what contracts see of an error

-- the echoed message, over the view of its payload
abbrev pub echo_view : {K P V : Type 0} → (P → V) → NlmsghdrErr K P → NlmsghdrErr K V
echo_view view m = record { header = m.header; payload = record { 0 = view m.payload.0 } }

-- the error, over the view of that payload
abbrev pub failure_view : {K P V : Type 0} → (P → V) → Nlmsgerr (NlmsghdrErr K P) → Nlmsgerr (NlmsghdrErr K V)
failure_view view e = answer e.error (echo_view view e.nlmsg) e.ext_ack

-- the text that an answer prints
abbrev pub answer_text : {M : Type 0} → Nlmsgerr M → List ℕ
answer_text e = codes "netlink error " ++ signed_decimal e.error
