-- A message's body that is read.
use Rattle.std.specs.Prelude.{ℕ, List, Option, Some, None, Result, Ok, Err}
use Rattle.neli_wire.specs.declared.errors.DeError.{DeError}
use Rattle.neli_wire.specs.Reading.{◌>>=◌}
use Rattle.neli_reader.specs.Messages.{Message}
use Rattle.neli_reader.specs.Retyping.{body_of}
use Rattle.neli_lent.specs.Messages.{Lent, as_owned}

-- what is read of the bytes, where there are some
abbrev pub read_there : {V : Type 0} → (List ℕ → Result V DeError) → Option (List ℕ)
    → Result (Option V) DeError
read_there read None = Ok None
read_there read (Some bytes) = read bytes >>= λ v. Ok (Some v)

-- ---- lent messages

-- the body of a message that was read, if it has one
abbrev pub body_read : {K P : Type 0} → Result (Message K P) DeError → Option P
body_read (Ok m) = body_of m.1
body_read (Err e) = None

-- the bytes of a lent message's body: those of the owned message that it becomes
abbrev pub lent_body : {K : Type 0} → (ℕ → K) → (K → ℕ) → Lent K → Option (List ℕ)
lent_body type_of number_of m = body_read (as_owned type_of number_of (λ bytes. Ok bytes) m)
