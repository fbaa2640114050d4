-- What is known of an input that is read whole.
use Rattle.std.specs.Prelude.{◌≡◌, ℕ, ◌≤◌, List, length, Option, IfSome}

-- the bytes are those of the reader, if they are known
abbrev pub IsInput : Option (List ℕ) → List ℕ → Type 0
IsInput known bytes = IfSome known (λ all. bytes ≡ all)

-- the reader had so many bytes or more, if they are known
abbrev pub HasAtLeast : ℕ → Option (List ℕ) → Type 0
HasAtLeast n known = IfSome known (λ all. n ≤ length all)
