-- Groups: lists of multicast groups, which are numbered from 1.
use Rattle.std.specs.Prelude.{ℕ, ◌<◌, Bool, not, List, [], ◌∷◌, ◌++◌, ◌==◌, nat_lt}
use Rattle.std.specs.List.{All, filter, list_any}

-- no number of the list is 0
abbrev pub HasNoZero : List ℕ → Type 0
HasNoZero numbers = All (λ n. 0 < n) numbers

-- whether the list has the number
abbrev pub has : List ℕ → ℕ → Bool
has numbers n = list_any (λ x. x == n) numbers

-- the list without its zeros
abbrev pub without_zeros : List ℕ → List ℕ
without_zeros numbers = filter (λ n. nat_lt 0 n) numbers

-- the list without the numbers that were removed
abbrev pub without : List ℕ → List ℕ → List ℕ
without removed numbers = filter (λ n. not (has removed n)) numbers

-- each number of the list once, at its first place
abbrev pub firsts : List ℕ → List ℕ
firsts [] = []
firsts (n ∷ ns) = n ∷ filter (λ m. not (m == n)) (firsts ns)

-- the added numbers that the groups lack, each once
abbrev pub lacking : List ℕ → List ℕ → List ℕ
lacking added groups = without groups (without_zeros (firsts added))

-- the groups, and then the added ones that they lack
abbrev pub with_added : List ℕ → List ℕ → List ℕ
with_added added groups = groups ++ lacking added groups
