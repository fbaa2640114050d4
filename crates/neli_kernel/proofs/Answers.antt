-- An answer that is read as a datagram.
use Rattle.std.proofs.Common.{◌≡◌, ℕ, ◌<◌, Bool, true, false, cond, List, [], ◌∷◌, length, Ok, Err, refl, arith}
use Rattle.std.specs.Prelude.{codes, nat_lt}
use Rattle.std.proofs.lemmas.Bool.{ltb-false}
use Rattle.std.proofs.lemmas.Nat.{or_lt}
use Rattle.neli_wire.specs.declared.errors.SerError.TheVariants as ser
use Rattle.neli_wire.specs.Writing.{Wire}
use Rattle.neli_consts.specs.declared.nlm_f.NlmF.{NlmF}
use Rattle.neli_reader.specs.Answers.{Attributes}
use Rattle.neli_reader.specs.Headers.{flags_of}
use Rattle.neli_reader.specs.Framed.{Nlmsghdr}
use Rattle.neli_reader.specs.NlPayload.{NlPayload}
use Rattle.neli_reader.specs.Wires.{message_wire}
use Rattle.neli_lent.specs.Written.{IsWalked}
use Rattle.neli_lent.specs.laws.Written.{written-walked}
use Rattle.neli_kernel.specs.Answers.{IsAddressed, answer_flags, answer_with, message_or_refusal, message_with}
use Rattle.neli_kernel.specs.declared.request.Request.{Request}

module _ {T P : Type 0} (number_of : T → ℕ) (wire : P → Wire) where
  -- the bytes are those of the message, whose length fits its field
  pub written-parts : (m : Nlmsghdr T P) (bytes : List ℕ) → message_or_refusal number_of wire m ≡ Ok bytes
      → (m.header.len < 4294967296) × (message_wire number_of wire m ≡ Ok bytes)
  written-parts m bytes h = by (nat_lt 4294967295 m.header.len) refl h
    where
      by : (b : Bool) → nat_lt 4294967295 m.header.len ≡ b
          → cond b (Err (ser.Msg (codes "Length does not fit its field"))) (message_wire number_of wire m) ≡ Ok bytes
          → (m.header.len < 4294967296) × (message_wire number_of wire m ≡ Ok bytes)
      by true is e = absurd cc
      by false is e = ((let le = ltb-false _ _ is in omega arith), e)

  -- so it is one message of a datagram
  pub one-message : (size : P → ℕ) → ((p : P) (bytes : List ℕ) → wire p ≡ Ok bytes → length bytes ≡ size p)
      → (t : T) (flags : NlmF) (number port : ℕ) (payload : NlPayload T P) (bytes : List ℕ) → number_of t < 65536
      → flags.0 < 65536 → number < 4294967296 → port < 4294967296
      → message_or_refusal number_of wire (message_with size t flags number port payload) ≡ Ok bytes
      → IsWalked number_of wire (message_with size t flags number port payload) bytes
  one-message size sized t flags number port payload bytes type_fits flags_fit number_fits port_fits h =
      let parts = written-parts (message_with size t flags number port payload) bytes h in
      written-walked number_of wire size sized (message_with size t flags number port payload) bytes
      (record {
        len = parts.0;
        message_type = type_fits;
        flags = flags_fit;
        sequence_number = number_fits;
        port = port_fits;
      }) refl parts.1

-- ---- acknowledgements and errors

-- the flags of an answer fit their field
pub flags-fit : (n : ℕ) (attrs : Attributes) → n < 65536 → (answer_flags (flags_of n) attrs).0 < 65536
flags-fit n [] lt = lt
flags-fit n (a ∷ attrs) lt = or_lt 16 n 512 lt (omega arith)

-- bytes are written as themselves
abbrev as_bytes : List ℕ → Wire
as_bytes b = Ok b

pub bytes-sized : (p bytes : List ℕ) → as_bytes p ≡ Ok bytes → length bytes ≡ length p
bytes-sized p bytes e = cc

pub one-answer : (asked : Request) (n : ℕ) (attrs : Attributes) (payload : NlPayload ℕ (List ℕ)) (bytes : List ℕ)
    → n < 65536 → IsAddressed asked → message_or_refusal (λ t. t) (λ b. Ok b)
    (answer_with asked (answer_flags (flags_of n) attrs) payload) ≡ Ok bytes
    → IsWalked (λ t. t) (λ b. Ok b) (answer_with asked (answer_flags (flags_of n) attrs) payload) bytes
one-answer asked n attrs payload bytes lt addressed h =
    one-message (λ t. t) (λ b. Ok b) length bytes-sized 2
    (answer_flags (flags_of n) attrs) asked.header.sequence_number asked.port payload bytes (omega arith)
    (flags-fit n attrs lt) addressed.0 addressed.1 h
