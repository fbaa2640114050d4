-- The meaning of a limit on kept bytes.
use Rattle.std.specs.Prelude.{ℕ, ◌≤◌, ◌<◌}

-- after a call, the bytes kept above the limit are no more than before it
abbrev pub StaysWithin : ℕ → ℕ → ℕ → Type 0
StaysWithin limit before after = limit < after → after ≤ before
