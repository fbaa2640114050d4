-- Spans: the bytes of one message, from its header to the end of its padding.
use Rattle.std.specs.Prelude.{◌≡◌, ℕ, List, [], Ok}
use Rattle.neli_wire.specs.Frames.{frame_at}
use Rattle.neli_reader.specs.Agreement.{untyped_layout}
use Rattle.neli_reader.specs.Messages.{Message}

-- the bytes are this message, read untyped
abbrev pub Spells : List ℕ → Message ℕ (List ℕ) → Type 0
Spells s u = frame_at untyped_layout s ≡ Ok (u, [])

-- the bytes are a message that can be read untyped
abbrev pub IsSpan : List ℕ → Type 0
IsSpan s = (u : Message ℕ (List ℕ)) × Spells s u
