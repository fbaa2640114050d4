-- Walks of messages alone.
use Rattle.std.proofs.Common.{◌≡◌, ℕ, List, [], ◌∷◌, Bool, Option, Some, None, refl}
use Rattle.std.specs.List.{list_all}
use Rattle.std.specs.Prelude.{is_none, is_ok}
use Rattle.neli_lent.specs.Messages.{messages_in}
use Rattle.neli_lent.specs.Walks.{items_of}
use Rattle.neli_wire.specs.declared.errors.DeError.{DeError}
use Rattle.neli_show.specs.Lines.{is_whole_datagram}

-- no item that is left is a fault
abbrev pub are_messages : List ℕ → Bool
are_messages bytes = list_all is_ok (items_of (messages_in (λ n. n) bytes))

-- a walk without a fault is one of messages
all_messages : {A : Type 0} (values : List A) (fault : Option DeError)
    → list_all is_ok (items_of (values, fault)) ≡ is_none fault
all_messages [] None = refl
all_messages [] (Some e) = refl
all_messages (a ∷ values) fault = all_messages values fault

pub are_whole : (bytes : List ℕ) → are_messages bytes ≡ is_whole_datagram bytes
are_whole bytes = let cut = messages_in (λ n. n) bytes in all_messages cut.0 cut.1
