-- The elements of a list, read one by one: the list that `AreElements` defines, or its first refusal.
use Rattle.std.specs.Prelude.{ℕ, zero, suc, List, [], ◌∷◌, length, Result, Ok, Err, nat_lt, if◌then◌else◌}
use Rattle.neli_wire.specs.Bytes.{Reading}
use Rattle.neli_wire.specs.declared.errors.DeError.{DeError}
use Rattle.neli_wire.specs.declared.errors.DeError.TheVariants.{InvalidInput}
use Rattle.neli_wire.specs.Reading.{◌>>=◌, map_refusal, refusal_within}

-- the elements that a byte list of at most `fuel` bytes spells, one after the other; stuck where one takes no byte
unfoldable pub elements_by : {V : Type 0} → (List ℕ → Reading V) → DeError → ℕ → List ℕ → Result (List V) DeError
elements_by read stuck fuel [] = Ok []
elements_by read stuck zero (b ∷ s) = Err stuck
elements_by read stuck (suc fuel) (b ∷ s) =
    read (b ∷ s) >>= λ p. if nat_lt (length p.1) (suc (length s))
    then (elements_by read stuck fuel p.1 >>= λ more. Ok (p.0 ∷ more)) else Err stuck

-- the elements that a whole byte list spells
abbrev pub elements : {V : Type 0} → (List ℕ → Reading V) → List ℕ → Result (List V) DeError
elements read s = map_refusal (refusal_within (length s)) (elements_by read (InvalidInput (length s)) (length s) s)
