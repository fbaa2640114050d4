-- A family of generic netlink and its number, in a word of the command line.
use Rattle.std.specs.Prelude.{ℕ, ◌==◌, List, codes, bytes_eq, length, if◌then◌else◌, Option, Some}
use Rattle.std.specs.Prelude.{None}
use Rattle.std.specs.Borrow.{Bor}
use Rattle.std.specs.List.{after_first, before_first, position_or_len}
use Rattle.neli_show.specs.Numbers.{number_in}

-- the texts of two parts
abbrev pub halves : Bor (List ℕ) × Bor (List ℕ) → List ℕ × List ℕ
halves parts = (parts.0.now, parts.1.now)

-- what stands before the first such byte, and what behind it
abbrev pub around : ℕ → List ℕ → Option (List ℕ × List ℕ)
around mark word =
    if position_or_len (λ b. b == mark) word == length word then None
    else Some (before_first (λ b. b == mark) word, after_first (λ b. b == mark) word)

-- a name, and the number in a word
abbrev pub named : List ℕ → Option ℕ → Option (List ℕ × ℕ)
named name (Some id) = Some (name, id)
named name None = None

abbrev pub named_in : Option (List ℕ × List ℕ) → Option (List ℕ × ℕ)
named_in (Some parts) = named parts.0 (number_in parts.1)
named_in None = None

abbrev pub family_with : Option (List ℕ × List ℕ) → Option (List ℕ × ℕ)
family_with (Some parts) =
    if bytes_eq parts.0 (codes "generic") then named_in (around 61 parts.1) else None
family_with None = None

-- the family and its number, as in `generic:nl80211=28`
abbrev pub family_in : List ℕ → Option (List ℕ × ℕ)
family_in word = family_with (around 58 word)
