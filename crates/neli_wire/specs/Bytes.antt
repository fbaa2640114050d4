-- Bytes: the next ones, or why they cannot be read.
use Rattle.std.specs.Prelude.{ℕ, List, length, take, drop, Result, Ok, Err, nat_lt, if◌then◌else◌}
use Rattle.std.specs.declared.io.ErrorKind.TheVariants.{UnexpectedEof}
use Rattle.neli_wire.specs.declared.errors.DeError.{DeError}
use Rattle.neli_wire.specs.declared.errors.DeError.TheVariants.{Io}

-- the value at the front of a byte list and the bytes after it, or a refusal
abbrev pub Reading : Type 0 → Type 0
Reading V = Result (V × List ℕ) DeError

-- the bytes end too early
abbrev pub short : DeError
short = Io UnexpectedEof

-- the next n bytes
abbrev pub bytes_at : ℕ → List ℕ → Reading (List ℕ)
bytes_at n s = if nat_lt (length s) n then Err short else Ok (take n s, drop n s)
