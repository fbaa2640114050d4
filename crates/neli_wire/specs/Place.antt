-- A place in a byte list: the meaning of a cursor.
use Rattle.std.specs.Prelude.{ℕ, List, ◌++◌, take, drop}

-- the bytes before the place, and those after it
pub record Place : Type 0 where
  pub before : List ℕ
  pub rest : List ℕ

-- all the bytes
abbrev pub whole : Place → List ℕ
whole p = p.before ++ p.rest

-- the place n bytes further on
abbrev pub place_after : Place → ℕ → Place
place_after p n = record { before = p.before ++ take n p.rest; rest = drop n p.rest }
