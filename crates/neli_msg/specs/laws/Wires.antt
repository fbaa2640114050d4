-- Laws of written messages: the length of their bytes, and that memory does not run out by itself.
use Rattle.std.proofs.Common.{◌≡◌, ◌≢◌, ℕ, ◌+◌, ◌-◌, ◌≤◌, List, [], ◌++◌}
use Rattle.std.proofs.Common.{length, Ok, Err, refl, ap, ◌∙◌, arith, length-append}
use Rattle.std.specs.Int.{w32}
use Rattle.neli_wire.specs.declared.errors.SerError.TheVariants as ser
use Rattle.std.proofs.lemmas.List.{length-replicate}
use Rattle.neli_wire.specs.laws.Lists.{both_written, both-no_memory, wire_all-length, wire_all-no_memory}
use Rattle.neli_wire.specs.laws.Numbers.{count-signed}
use Rattle.neli_wire.specs.Numbers.{signed_bytes}
use Rattle.neli_wire.specs.Sizes.{EndsInZeros, align}
use Rattle.neli_wire.specs.laws.Sizes.{padded-zeros, unpadded-zeros}
use Rattle.neli_wire.specs.Writing.{Wire, ◌+++◌, pad_wire, zeros_for}
use Rattle.neli_wire.specs.laws.Writing.{own-length, written-length, written-no_memory}
use Rattle.neli_consts.specs.NlmsgerrAttr.{nlmsgerr_attr_number}
use Rattle.neli_attr.specs.laws.Nlattr.{nlattr_wire-length, nlattr_wire-no_memory}
use Rattle.neli_msg.specs.declared.answer.Nlmsgerr.{Nlmsgerr}
use Rattle.neli_msg.specs.declared.echo.Echoed.{Echoed}
use Rattle.neli_msg.specs.declared.framed.Framed.{Framed}
use Rattle.neli_msg.specs.Framed.{Nlmsghdr}
use Rattle.neli_msg.specs.declared.payload.NlPayload.{NlPayload}
use Rattle.neli_msg.specs.declared.payload.NlPayload.TheVariants as payload
use Rattle.neli_msg.specs.Answers.{Attributes}
use Rattle.neli_msg.specs.Headers.{header_wire}
use Rattle.neli_msg.specs.laws.Headers.{header_wire-length, header_wire-no_memory}
use Rattle.neli_msg.specs.Wires.{attributes_size, attributes_wire, answer_wire, answer_size, echo_size, echo_wire}
use Rattle.neli_msg.specs.Wires.{framed_size, framed_wire, payload_wire, payload_size, message_wire, message_size}

-- ---- two parts, and their padding

both-length : (a b : Wire) (n m : ℕ) → ((bytes : List ℕ) → a ≡ Ok bytes → length bytes ≡ n)
    → ((bytes : List ℕ) → b ≡ Ok bytes → length bytes ≡ m) → (bytes : List ℕ) → a +++ b ≡ Ok bytes
    → length bytes ≡ n + m
both-length a b n m first second bytes e =
    let p = both_written a b bytes e in
    omega (arith, ap length p.4, length-append p.0 p.1, first p.0 p.2, second p.1 p.3)

align-le : (n : ℕ) → n ≤ align n
align-le n = omega arith

padded-length : (w : Wire) (n : ℕ) → ((bytes : List ℕ) → w ≡ Ok bytes → length bytes ≡ n) → (bytes : List ℕ)
    → pad_wire w ≡ Ok bytes → length bytes ≡ align n
padded-length (Ok x) n sized bytes e =
    let same : x ++ zeros_for (length x) ≡ bytes = cc in
    let len : length x ≡ n = sized x refl in
    let all : length bytes ≡ align (length x) = omega (
      arith,
      ap length same,
      length-append x (zeros_for (length x)),
      length-replicate {A = ℕ} (align (length x) - length x) 0,
      align-le (length x),
    ) in
    all ∙ ap align len
padded-length (Err d) n sized bytes e = absurd cc

padded-no_memory : (w : Wire) → w ≢ Err ser.Memory → pad_wire w ≢ Err ser.Memory
padded-no_memory (Ok x) h e = cc
padded-no_memory (Err d) h e = h e

-- ---- answers

attributes_wire-length : (attrs : Attributes) (bytes : List ℕ) → attributes_wire attrs ≡ Ok bytes
    → length bytes ≡ attributes_size attrs
attributes_wire-length = wire_all-length _ (λ a. align (4 + length a.nla_payload))
    (nlattr_wire-length nlmsgerr_attr_number (λ bytes. Ok bytes) length (λ p bytes e. own-length p bytes e))

attributes_wire-no_memory : (attrs : Attributes) → attributes_wire attrs ≢ Err ser.Memory
attributes_wire-no_memory = wire_all-no_memory _ (nlattr_wire-no_memory nlmsgerr_attr_number (λ bytes. Ok bytes)
    (λ p e. cc))

module _ {M : Type 0} (wire : M → Wire) where
  pub answer_wire-length : (size : M → ℕ) → ((m : M) (bytes : List ℕ) → wire m ≡ Ok bytes → length bytes ≡ size m)
      → (e : Nlmsgerr M) (bytes : List ℕ) → answer_wire wire e ≡ Ok bytes → length bytes ≡ answer_size size e
  answer_wire-length size sized e =
      both-length (Ok (signed_bytes w32 4 e.error) +++ wire e.nlmsg) (attributes_wire e.ext_ack) (4 + size e.nlmsg) _
      (both-length (Ok (signed_bytes w32 4 e.error)) (wire e.nlmsg) 4 (size e.nlmsg)
      (λ bytes is. written-length (signed_bytes w32 4 e.error) bytes 4 (count-signed w32 4 refl e.error) is)
      (sized e.nlmsg))
      (attributes_wire-length e.ext_ack)

  pub answer_wire-zeros : (size : M → ℕ) → ((m : M) (bytes : List ℕ) → wire m ≡ Ok bytes → length bytes ≡ size m)
      → (e : Nlmsgerr M) (bytes : List ℕ) → answer_wire wire e ≡ Ok bytes → EndsInZeros (answer_size size e) bytes
  answer_wire-zeros size sized e bytes is = unpadded-zeros (answer_size size e) bytes
      (answer_wire-length size sized e bytes is)

  pub answer_wire-no_memory : ((m : M) → wire m ≢ Err ser.Memory) → (e : Nlmsgerr M)
      → answer_wire wire e ≢ Err ser.Memory
  answer_wire-no_memory none e =
      both-no_memory (Ok (signed_bytes w32 4 e.error) +++ wire e.nlmsg) (attributes_wire e.ext_ack)
      (both-no_memory (Ok (signed_bytes w32 4 e.error)) (wire e.nlmsg) (written-no_memory (signed_bytes w32 4 e.error))
      (none e.nlmsg))
      (attributes_wire-no_memory e.ext_ack)

-- ---- a header and its payload

module _ {K X : Type 0} (number_of : K → ℕ) (wire : X → Wire) where
  module _ (size : X → ℕ) (sized : (x : X) (bytes : List ℕ) → wire x ≡ Ok bytes → length bytes ≡ size x) where
    framed-length : (m : Framed K X) (bytes : List ℕ) → header_wire number_of m.header +++ wire m.payload ≡ Ok bytes
        → length bytes ≡ framed_size size m
    framed-length m = both-length (header_wire number_of m.header) (wire m.payload) 16 (size m.payload)
        (header_wire-length number_of m.header) (sized m.payload)

    pub framed_wire-length : (m : Framed K X) (bytes : List ℕ) → framed_wire number_of wire m ≡ Ok bytes
        → length bytes ≡ align (framed_size size m)
    framed_wire-length m = padded-length (header_wire number_of m.header +++ wire m.payload) (framed_size size m)
        (framed-length m)

    pub framed_wire-zeros : (m : Framed K X) (bytes : List ℕ) → framed_wire number_of wire m ≡ Ok bytes
        → EndsInZeros (framed_size size m) bytes
    framed_wire-zeros m = padded-zeros (header_wire number_of m.header +++ wire m.payload) (framed_size size m)
        (framed-length m)

  pub framed_wire-no_memory : ((x : X) → wire x ≢ Err ser.Memory) → (m : Framed K X)
      → framed_wire number_of wire m ≢ Err ser.Memory
  framed_wire-no_memory none m = padded-no_memory _ (both-no_memory (header_wire number_of m.header) (wire m.payload)
      (header_wire-no_memory number_of m.header) (none m.payload))

-- ---- payloads and messages

module _ {K P : Type 0} (number_of : K → ℕ) (wire : P → Wire) (size : P → ℕ) (sized : (p : P) (bytes : List ℕ)
    → wire p ≡ Ok bytes → length bytes ≡ size p) where
  pub payload_wire-length : (p : NlPayload K P) (bytes : List ℕ) → payload_wire number_of wire p ≡ Ok bytes
      → length bytes ≡ payload_size size p
  payload_wire-length (payload.Ack e) = answer_wire-length (header_wire number_of) (λ _. 16)
      (header_wire-length number_of) e
  payload_wire-length (payload.Capped e) = answer_wire-length (header_wire number_of) (λ _. 16)
      (header_wire-length number_of) e
  payload_wire-length (payload.DumpExtAck e) = answer_wire-length (λ _. Ok []) (λ _. 0)
      (λ u bytes is. written-length [] bytes 0 refl is) e
  payload_wire-length (payload.Err e) = answer_wire-length (echo_wire number_of wire)
      (λ m. align (echo_size size m))
      (framed_wire-length number_of (λ (x : Echoed P). wire x.0) (λ x. size x.0) (λ x. sized x.0)) e
  payload_wire-length (payload.Payload p) = sized p
  payload_wire-length payload.Empty = λ bytes is. written-length [] bytes 0 refl is

  pub payload_wire-zeros : (p : NlPayload K P) (bytes : List ℕ) → payload_wire number_of wire p ≡ Ok bytes
      → EndsInZeros (payload_size size p) bytes
  payload_wire-zeros p bytes is = unpadded-zeros (payload_size size p) bytes (payload_wire-length p bytes is)

  pub message_wire-length : (m : Nlmsghdr K P) (bytes : List ℕ) → message_wire number_of wire m ≡ Ok bytes
      → length bytes ≡ align (message_size size m)
  message_wire-length = framed_wire-length number_of (payload_wire number_of wire) (payload_size size)
      payload_wire-length

module _ {K P : Type 0} (number_of : K → ℕ) (wire : P → Wire) (none : (p : P) → wire p ≢ Err ser.Memory) where
  pub payload_wire-no_memory : (p : NlPayload K P) → payload_wire number_of wire p ≢ Err ser.Memory
  payload_wire-no_memory (payload.Ack e) = answer_wire-no_memory (header_wire number_of)
      (header_wire-no_memory number_of) e
  payload_wire-no_memory (payload.Capped e) = answer_wire-no_memory (header_wire number_of)
      (header_wire-no_memory number_of) e
  payload_wire-no_memory (payload.DumpExtAck e) = answer_wire-no_memory (λ _. Ok []) (λ u. written-no_memory []) e
  payload_wire-no_memory (payload.Err e) = answer_wire-no_memory (echo_wire number_of wire)
      (framed_wire-no_memory number_of (λ (x : Echoed P). wire x.0) (λ x. none x.0)) e
  payload_wire-no_memory (payload.Payload p) = none p
  payload_wire-no_memory payload.Empty = written-no_memory []
