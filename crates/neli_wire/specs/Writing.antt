-- Writing: the bytes of a value, called its wire bytes, or why it has none.
use Rattle.std.specs.Prelude.{ℕ, ◌<◌, List, [], ◌∷◌, ◌++◌, length, replicate, Result, Ok, Err, ⊤}
use Rattle.neli_wire.specs.Sizes.{gap}
use Rattle.neli_wire.specs.declared.errors.SerError.{SerError}
use Rattle.neli_wire.specs.Refusals.{IsRefusal, ser_ran_out}

-- the bytes of a value, or a refusal
abbrev pub Wire : Type 0
Wire = Result (List ℕ) SerError

-- the bytes of both, one after the other; the first refusal stands for both
infixl 11 ◌+++◌
abbrev pub ◌+++◌ : Wire → Wire → Wire
(Ok a) +++ (Ok b) = Ok (a ++ b)
(Ok a) +++ (Err e) = Err e
(Err e) +++ w = Err e

-- the bytes of all, one after the other
abbrev pub wire_all : {A : Type 0} → (A → Wire) → List A → Wire
wire_all wire [] = Ok []
wire_all wire (x ∷ xs) = wire x +++ wire_all wire xs

-- as many zeros as bring a length to the next multiple of four
abbrev pub zeros_for : ℕ → List ℕ
zeros_for n = replicate (gap n) 0

-- the bytes with zeros up to a multiple of four
abbrev pub pad_wire : Wire → Wire
pad_wire (Ok bytes) = Ok (bytes ++ zeros_for (length bytes))
pad_wire (Err e) = Err e

-- the old bytes, and then those of a value
abbrev pub append_wire : List ℕ → Wire → Wire
append_wire old (Ok bytes) = Ok (old ++ bytes)
append_wire old (Err e) = Err e

-- a write that appends a byte, or is refused half way, takes memory
abbrev pub TakesRoom : Wire → Type 0
TakesRoom (Ok bytes) = 0 < length bytes
TakesRoom (Err e) = ⊤

-- e is why a write is refused: the value has no bytes, or memory ran out
abbrev pub RefusesWrite : Wire → SerError → Type 0
RefusesWrite wire = IsRefusal ser_ran_out wire (TakesRoom wire)
