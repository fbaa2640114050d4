-- Bodies: a header of fixed size, and what follows it.
use Rattle.std.specs.Prelude.{ℕ, ◌≤◌, List, length, take, drop, Result, Ok, Err, nat_lt, if◌then◌else◌}
use Rattle.neli_wire.specs.declared.errors.DeError.{DeError}
use Rattle.neli_wire.specs.declared.errors.DeError.TheVariants.{InvalidInput}
use Rattle.neli_wire.specs.Reading.{◌>>=◌}
use Rattle.neli_wire.specs.Writing.{Wire, ◌+++◌}

-- a body as read: the header in the first n bytes, and what follows in the others
abbrev pub body_of : {H V : Type 0} → ℕ → (List ℕ → H) → (List ℕ → Result V DeError) → List ℕ → Result (H × V) DeError
body_of n header_of rest_of s =
    if nat_lt (length s) n then Err (InvalidInput (length s))
    else (rest_of (drop n s) >>= λ rest. Ok (header_of (take n s), rest))

-- there is a whole header, and reading what follows takes memory
abbrev pub body_takes_memory : ℕ → (List ℕ → Type 0) → List ℕ → Type 0
body_takes_memory n takes s = (n ≤ length s) × takes (drop n s)

-- the bytes of a header, and then those of what follows it
abbrev pub body_wire : List ℕ → Wire → Wire
body_wire header rest = Ok header +++ rest
