-- The fields shown for an error, an acknowledgement or the end of a dump: by the kinds of neli_reader.
use Rattle.std.specs.Prelude.{◌≡◌, ℕ, ◌+◌, ℤ, nat_eq, nat_lt, nat_le, min, if◌then◌else◌, List}
use Rattle.std.specs.Prelude.{length, drop, Option, Some, None, Result, Ok, Err}
use Rattle.neli_wire.specs.declared.errors.DeError.{DeError}
use Rattle.neli_reader.specs.Answers.{code_in, echoed_in}
use Rattle.neli_reader.specs.Headers.{Header, flags_of, header_in}
use Rattle.neli_reader.specs.Kind.{Kind}
use Rattle.neli_reader.specs.Kind.TheVariants.{Body, Nothing, DumpEnd, Failure}
use Rattle.neli_reader.specs.Kinds.{kind_of}
use Rattle.neli_reader.specs.Zeroed.{attributes_at}
use Rattle.neli_c_parts.specs.declared.message.NeliMessage.{NeliMessage}
use Rattle.neli_c_parts.specs.declared.answering.NeliAnswer.{NeliAnswer}
use Rattle.neli_c_parts.specs.Codes.{bad_length, kind, ok, place, short}
use Rattle.neli_c_parts.specs.Walks.{bytes_from}

-- the payload of a message, if it lies within the bytes
abbrev pub payload_view : List ℕ → NeliMessage → Option (List ℕ)
payload_view bytes m =
    if nat_le (m.payload + m.payload_length) (length bytes) then Some (bytes_from m.payload m.payload_length bytes)
    else None

-- of an echoed request
abbrev pub echo_code : {V : Type 0} → Result V DeError → ℤ
echo_code (Ok v) = ok
echo_code (Err e) = bad_length

-- of a payload of this kind
abbrev pub kind_code : Kind → List ℕ → ℤ
kind_code Body s = kind
kind_code Nothing s = kind
kind_code DumpEnd s = if nat_lt (length s) 4 then short else ok
kind_code Failure s = if nat_lt (length s) 20 then short else echo_code (echoed_in s)
kind_code k s = if nat_lt (length s) 20 then short else ok

-- the code that a call returns for a payload after a header of this type and these flags
abbrev pub answer_code : ℕ → ℕ → List ℕ → ℤ
answer_code number flags s = kind_code (kind_of number (flags_of flags) s) s

-- the start of the attributes
abbrev pub attributes_begin : ℕ → ℕ → List ℕ → ℕ
attributes_begin number flags s = min (attributes_at (kind_of number (flags_of flags) s) s) (length s)

-- the code that a call returns, whether the payload lies within the bytes or not
abbrev pub payload_code : NeliMessage → Option (List ℕ) → ℤ
payload_code m None = place
payload_code m (Some s) = answer_code m.message_type m.flags s

-- the header that an answer echoes
abbrev pub echo_view : NeliAnswer → Header ℕ
echo_view a = record {
  len = a.echo_length;
  message_type = a.echo_type;
  flags = flags_of a.echo_flags;
  sequence_number = a.echo_number;
  port = a.echo_port;
}

-- a header of zeros
abbrev pub no_header : Header ℕ
no_header = record { len = 0; message_type = 0; flags = flags_of 0; sequence_number = 0; port = 0 }

-- the code, the echoed header of an error (type 2), and the bytes of the attributes
abbrev pub IsShown : NeliMessage → NeliAnswer → List ℕ → Type 0
IsShown m a s =
    (a.code ≡ code_in s) × (echo_view a ≡ (if nat_eq m.message_type 2 then header_in (λ n. n) (drop 4 s)
    else no_header))
    × (a.attributes ≡ record {
      place = m.payload + attributes_begin m.message_type m.flags s;
      end = m.payload + length s;
    })
