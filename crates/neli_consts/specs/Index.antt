-- Attributes that are numbered: every number is an index.
use Rattle.std.specs.Prelude.{ℕ, Bool, false}
use Rattle.neli_consts.specs.declared.index.Index.{Index}

-- the number of an index
abbrev pub index_number : Index → ℕ
index_number v = v.0

-- the index with a number
abbrev pub index_of : ℕ → Index
index_of n = record { 0 = n }

-- no index is a number without a meaning
abbrev pub index_is_unrecognized : Index → Bool
index_is_unrecognized v = false
