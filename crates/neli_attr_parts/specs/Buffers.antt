-- Buffers: bytes that a value owns, seen as a list.
use Rattle.std.specs.Prelude.{ℕ, List, ◌++◌, length, take, drop}
use Rattle.std.specs.Borrow.{Lends, MutBor, Fml, Array, u8}
use Rattle.neli_attr_parts.specs.contracts.buffer.Buffer.{the_row}

-- the bytes, overwritten with others from the first on
abbrev pub overwrite : List ℕ → List ℕ → List ℕ
overwrite old new = take (length old) (new ++ drop (length new) old)

-- the buffer ends with the bytes last written through the slice that it lent
abbrev pub LendsBytes : MutBor (List ℕ) → MutBor (List ℕ) → Fml
LendsBytes buffer bytes = Lends the_row (Array u8 0) buffer bytes (overwrite buffer.now)
