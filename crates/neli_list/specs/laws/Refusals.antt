-- Laws of refusals, which proofs of readings cite.
use Rattle.std.proofs.Common.{◌≡◌, Result, Ok, Err, sym, ◌∙◌}
use Rattle.std.specs.Prelude.{IfErr}
use Rattle.neli_wire.specs.declared.errors.DeError.{DeError}
use Rattle.neli_wire.specs.declared.errors.DeError.TheVariants.{Msg, Io, Utf8, InvalidInput, Memory}
use Rattle.neli_wire.specs.Refusals.{Refuses}

-- equal readings have the same refusals
pub refuses-same : {A B : Type 0} (r : Result B DeError) (one two : Result A DeError) (takes more : Type 0) → one ≡ two
    → (takes → more) → IfErr r (Refuses one takes) → IfErr r (Refuses two more)
refuses-same (Ok x) one two takes more same f h = h
refuses-same (Err (Msg m)) one two takes more same f h = sym same ∙ h
refuses-same (Err (Io k)) one two takes more same f h = sym same ∙ h
refuses-same (Err (Utf8 u)) one two takes more same f h = sym same ∙ h
refuses-same (Err (InvalidInput n)) one two takes more same f h = sym same ∙ h
refuses-same (Err Memory) one two takes more same f h = f h
