-- Datagrams as they are read.
use Rattle.std.specs.Prelude.{◌≡◌, ◌≤◌, ℕ, List, All, None, flat_map, length}
use Rattle.neli_lent.specs.Messages.{Lent, messages_in}

-- the contents of the messages in these datagrams, in order
abbrev pub messages_of : List (List ℕ) → List (Lent ℕ)
messages_of = flat_map (λ d. (messages_in (λ n. n) d).0)

-- the datagram has no fault
abbrev pub HasNoFault : List ℕ → Type 0
HasNoFault d = (messages_in (λ n. n) d).1 ≡ None

-- the datagrams are read as messages with these contents, and without a fault
abbrev pub AreRead : List (List ℕ) → List (Lent ℕ) → Type 0
AreRead datagrams said = (messages_of datagrams ≡ said) × All HasNoFault datagrams

-- none has more bytes than the limit
abbrev pub AreWithin : ℕ → List (List ℕ) → Type 0
AreWithin limit = All (λ d. length d ≤ limit)
