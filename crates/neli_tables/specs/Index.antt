-- Where the lines of a table stand, by their keys.
use Rattle.std.specs.Prelude.{◌≡◌, ℕ, Bool, true, false, ◌&&◌, ◌==◌, if◌then◌else◌, List, Option, Some, None}
use Rattle.std.specs.Prelude.{slice_get}
use Rattle.std.specs.HashMap.{get_by}
use Rattle.std.specs.Option.{option_or}
use Rattle.neli_tables.specs.Lines.{LineSeen}
use Rattle.neli_tables.specs.declared.firsts.Firsts.{Firsts}
use Rattle.neli_tables.specs.declared.index.Index.{Index}
use Rattle.neli_tables.specs.RowKeys.{Key, has_key, place_of}

-- what an index has at a key
abbrev pub finds : Index → Key → Option ℕ
finds index key =
    get_by (λ (k : Key). key.0 == k.0 && key.1 == k.1 && key.2 == k.2) index.map

-- what was found before; or this place, where the line there has the key that is meant
abbrev pub first_found : Option ℕ → Key → Option Key → ℕ → Option ℕ
first_found before key line place = option_or before (if has_key key line then Some place else None)

-- an index has the place of the first line with each key
abbrev pub Indexes : Index → List LineSeen → Type 0
Indexes index lines = (key : Key) → finds index key ≡ place_of key lines

-- ---- lines that are the first with their keys

abbrev pub has_that : Key → Option (Option Key) → Bool
has_that key (Some first) = has_key key first
has_that key None = false

-- the line at a place is noted as the first with this key
abbrev pub is_first : Firsts → ℕ → Key → Bool
is_first firsts place key = has_that key (slice_get firsts.keys.items place)

-- each line that is so noted is the first with its key
abbrev pub AreFirsts : Firsts → List LineSeen → Type 0
AreFirsts firsts lines =
    (place : ℕ) (key : Key) → is_first firsts place key ≡ true → place_of key lines ≡ Some place
