-- What reading a message untyped and reading it typed have in common.
use Rattle.std.specs.Prelude.{ℕ, List, Result, Ok}
use Rattle.neli_wire.specs.Bytes.{Reading}
use Rattle.neli_wire.specs.declared.errors.DeError.{DeError}
use Rattle.neli_wire.specs.Frames.{Layout}
use Rattle.neli_wire.specs.Reading.{◌>>=◌}
use Rattle.neli_msg.specs.declared.payload.NlPayload.{NlPayload}
use Rattle.neli_msg.specs.Headers.{Header}
use Rattle.neli_msg.specs.Messages.{Message, message_layout}
use Rattle.neli_msg.specs.Retyping.{IsRead, typed_message}

-- untyped messages: a type is its number, a body its bytes
abbrev pub untyped_layout : Layout (Header ℕ) (NlPayload ℕ (List ℕ))
untyped_layout = message_layout (λ n. n) (λ n. n) (λ bytes. Ok bytes)

-- the reading as other types of a message that is read untyped, where r follows it
abbrev pub typed_reading : {K V : Type 0} → (ℕ → K) → (List ℕ → Result V DeError) → Message ℕ (List ℕ) → List ℕ
    → Reading (Message K V)
typed_reading type_of read m r = typed_message type_of read m >>= λ t. Ok (t, r)

-- if the message has bytes for a body, they are read as one
abbrev pub AreRead : {V : Type 0} → (List ℕ → Result V DeError) → Message ℕ (List ℕ) → Type 0
AreRead read m = IsRead read m.1
