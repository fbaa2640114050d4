-- Payloads: the values read from their bytes.
use Rattle.std.specs.Prelude.{◌≡◌, ℕ, List, Result, Ok}
use Rattle.neli_wire.specs.Bytes.{Reading}
use Rattle.neli_wire.specs.Refusals.{Refuses}
use Rattle.neli_wire.specs.declared.errors.DeError.{DeError}

-- the bytes begin with this value, whatever follows
abbrev pub ReadsFirst : {V : Type 0} → Reading V → V → Type 0
ReadsFirst reading v = (rest : List ℕ) × (reading ≡ Ok (v, rest))

-- e is the error that the reading's refusal becomes; memory does not run out
abbrev pub RefusesAs : {V E : Type 0} → (DeError → E → Type 0) → Result V DeError → E → Type 0
RefusesAs becomes reading e = (d : DeError) × becomes d e × Refuses reading ⊥ d
