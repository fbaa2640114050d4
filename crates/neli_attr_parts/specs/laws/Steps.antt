-- Attributes field by field, as they are read. The laws of attributes tie this to reading by places.
use Rattle.std.specs.Prelude.{ℕ, List, Result, Ok}
use Rattle.neli_wire.specs.Bytes.{Reading}
use Rattle.neli_wire.specs.declared.errors.DeError.{DeError}
use Rattle.neli_wire.specs.Reading.{◌>>=◌, number_at, number_as}
use Rattle.neli_wire.specs.laws.Steps.{header_then, header_then_takes_memory}
use Rattle.neli_attr_parts.specs.Attributes.{Attr, Head}

-- a header
unfoldable pub head_at : {K : Type 0} → (ℕ → K) → List ℕ → Reading (Head K)
head_at kind_of s = do
  len ← number_at 2 s
  kind ← number_as kind_of len.1
  Ok (record { len = len.0; kind = kind.0 }, kind.1)

-- a header, and then what it states
unfoldable pub attribute_at : {K V : Type 0} → (ℕ → K) → (List ℕ → Result V DeError) → List ℕ → Reading (Attr K V)
attribute_at kind_of payload_of = header_then (head_at kind_of) (λ head. head.len) 4 (λ _. payload_of)

-- there is enough for the payload, and reading it takes memory
unfoldable pub attribute_takes_memory : {K : Type 0} → (ℕ → K) → (List ℕ → Type 0) → List ℕ → Type 0
attribute_takes_memory kind_of takes = header_then_takes_memory (head_at kind_of) (λ head. head.len) 4 (λ _. takes)
