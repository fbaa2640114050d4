-- Why an attribute that is there is not read.
use Rattle.std.specs.Prelude.{◌≡◌, ℕ, List, ◌++◌, codes, decimal, Option, Result, Err, ◌⊎◌}
use Rattle.std.specs.Option.{option_map}
use Rattle.neli_wire.specs.declared.errors.DeError.{DeError}
use Rattle.neli_wire.specs.declared.errors.DeError.TheVariants.{Memory}
use Rattle.neli_wire.specs.ErrorTexts.{de_text}
use Rattle.neli_short.specs.declared.error.AttrError.{AttrError}

-- what it prints, where the text of the cause is this library's
abbrev pub attr_text : AttrError → Option (List ℕ)
attr_text e =
    option_map (λ text. codes "attribute " ++ decimal e.number ++ codes ": " ++ text) (de_text e.cause)

-- the refusal of the attribute of this number
abbrev pub refusal_of : ℕ → DeError → AttrError
refusal_of n cause = record { number = n; cause = cause }

-- e is the refusal that the reading is; or memory ran out for the attribute of this number, where its read takes some
abbrev pub RefusesRead : {A : Type 0} → ℕ → Result A AttrError → Type 0 → AttrError → Type 0
RefusesRead n reading takes e = (reading ≡ Err e) ⊎ (takes × (e ≡ refusal_of n Memory))
