-- What a call does to what C holds, which is open or closed: a dump, or tables.
use Rattle.std.specs.Prelude.{◌≡◌, ℤ, Option, None, IfSome, IsSome}
use Rattle.neli_c_parts.specs.Codes.{state}

-- a closed one stays so, and the code says it
abbrev pub StaysClosed : {S : Type 0} → ℤ → Option S → Option S → Type 0
StaysClosed code old new = old ≡ None → (code ≡ state) × (new ≡ None)

-- an open one stays so, and this is done to it
abbrev pub StaysOpen : {S : Type 0} → (S → S → Type 0) → Option S → Option S → Type 0
StaysOpen Does old new = IfSome old (λ s. IsSome new × IfSome new (Does s))
