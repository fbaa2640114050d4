-- Texts and items in a room that may be too small for them.
use Rattle.std.specs.Prelude.{◌≡◌, ℕ, ◌+◌, ◌-◌, List, ◌++◌, length, take, drop}
use Rattle.neli_c_parts.specs.declared.room.Room.{Room}

-- a list with these in place of as many from a place on; those past the end are left out
abbrev pub put_at : {A : Type 0} → ℕ → List A → List A → List A
put_at place xs out = take place out ++ take (length out - place) xs ++ drop (place + length xs) out

-- bytes with a text in place of as many at their front, or with its beginning where it has more
abbrev pub beginning : List ℕ → List ℕ → List ℕ
beginning text out = put_at 0 text out

-- a text goes behind what was written, and into the same bytes
abbrev pub Writes : Room → List ℕ → Room → Type 0
Writes old text new =
    (new.size ≡ old.size + length text) × (new.out.now ≡ put_at old.size text old.out.now)
    × (new.out.ghost_name ≡ old.out.ghost_name)
