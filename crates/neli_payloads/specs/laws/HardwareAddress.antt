-- Laws of hardware addresses.
use Rattle.std.proofs.Common.{◌≢◌, ℕ, Bool, true, false, cond, List, length, Ok, Err}
use Rattle.neli_wire.specs.Bytes.{short}
use Rattle.neli_wire.specs.declared.errors.DeError.{DeError}
use Rattle.neli_wire.specs.declared.errors.DeError.TheVariants.{InvalidInput, Memory}
use Rattle.neli_payloads.specs.HardwareAddress.{hardware_address}

-- one of two outcomes is neither of these refusals
either-not : (b : Bool) (s : List ℕ) (n : ℕ) (d : DeError) → InvalidInput n ≢ d
    → cond b (Ok s) (Err (InvalidInput n)) ≢ Err d
either-not true s n d f e = cc
either-not false s n d f e = f cc

pub hardware_address-no_memory : (s : List ℕ) → hardware_address s ≢ Err Memory
hardware_address-no_memory s = either-not _ s (length s) Memory (λ f. cc)

pub hardware_address-never_short : (s : List ℕ) → hardware_address s ≢ Err short
hardware_address-never_short s = either-not _ s (length s) short (λ f. cc)
