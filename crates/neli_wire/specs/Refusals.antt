-- Refusals: how a call's error relates to the outcome that the definitions give.
use Rattle.std.specs.Prelude.{◌≡◌, ◌<◌, Bool, true, false, Result, Err, length}
use Rattle.std.specs.Bool.{MatchBool}
use Rattle.neli_wire.specs.declared.errors.SerError.{SerError}
use Rattle.neli_wire.specs.declared.errors.SerError.TheVariants as ser
use Rattle.neli_wire.specs.declared.errors.DeError.{DeError}
use Rattle.neli_wire.specs.declared.errors.DeError.TheVariants as de

-- e is the outcome's refusal; or e reports that memory ran out, where the call takes some
abbrev pub IsRefusal : {A E : Type 0} → (E → Bool) → Result A E → Type 0 → E → Type 0
IsRefusal ran_out outcome takes_memory e = MatchBool (ran_out e) takes_memory (outcome ≡ Err e)

-- whether a refused write reports that memory ran out
abbrev pub ser_ran_out : SerError → Bool
ser_ran_out (ser.Msg m) = false
ser_ran_out (ser.Io k) = false
ser_ran_out (ser.Utf8 u) = false
ser_ran_out ser.Memory = true

-- whether a refused read reports that memory ran out
abbrev pub de_ran_out : DeError → Bool
de_ran_out (de.Msg m) = false
de_ran_out (de.Io k) = false
de_ran_out (de.Utf8 u) = false
de_ran_out (de.InvalidInput n) = false
de_ran_out de.Memory = true

-- e is why a read is refused; the read takes memory where `takes_memory` holds
abbrev pub Refuses : {A : Type 0} → Result A DeError → Type 0 → DeError → Type 0
Refuses outcome takes_memory e = IsRefusal de_ran_out outcome takes_memory e

-- ---- copies

-- copying a refused write takes memory: that of its text
abbrev pub ser_copy_takes_memory : SerError → Type 0
ser_copy_takes_memory (ser.Msg text) = 0 < length text
ser_copy_takes_memory e = ⊥

-- copying a refused read takes memory: that of its text
abbrev pub de_copy_takes_memory : DeError → Type 0
de_copy_takes_memory (de.Msg text) = 0 < length text
de_copy_takes_memory e = ⊥
