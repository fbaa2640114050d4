-- Whole messages, one after the other.
use Rattle.std.specs.Prelude.{◌≡◌, ℕ, List, [], ◌∷◌, None}
use Rattle.neli_lent.specs.Messages.{Lent, messages_in}

-- the messages of these bytes, in order
abbrev pub messages_of : List ℕ → List (Lent ℕ)
messages_of bytes = (messages_in (λ n. n) bytes).0

-- these bytes are whole messages, without a fault
abbrev pub IsWhole : List ℕ → Type 0
IsWhole bytes = (messages_in {K = ℕ} (λ n. n) bytes).1 ≡ None

-- these bytes are one message, from its header to the end of its padding
abbrev pub IsMessage : List ℕ → Lent ℕ → Type 0
IsMessage span m = messages_in (λ n. n) span ≡ (m ∷ [], None)
