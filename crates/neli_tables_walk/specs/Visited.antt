-- Items without their paths.
use Rattle.std.specs.Prelude.{ℕ, ◌≡◌, ◌≤◌, ◌+◌, ◌-◌, List, [], ◌∷◌, length, map, slice_get, take}
use Rattle.std.specs.Prelude.{Option, Some, None, Result, Ok, Err}
use Rattle.neli_wire.specs.declared.errors.DeError.{DeError}
use Rattle.neli_tables_walk.specs.declared.item.Found.{Found}
use Rattle.neli_tables_walk.specs.declared.item.Rest.{Rest}
use Rattle.neli_tables_walk.specs.declared.item.Step.{Step}
use Rattle.neli_tables_walk.specs.declared.item.Visit.{Visit}
use Rattle.neli_tables_walk.specs.declared.level.Level.{Level}
use Rattle.neli_tables_walk.specs.Walks.{Said, Seen, content_view}

-- the number of lists around an item: the parts of its path, and one more around what is left of a
-- list
abbrev pub lists_with : ℕ → Result Said (List ℕ × DeError) → ℕ
lists_with steps (Ok said) = steps
lists_with steps (Err left) = steps + 1

-- the last part of a path
abbrev pub last_step : List Step → Option Step
last_step path = slice_get path (length path - 1)

-- that of an attribute or a hop, which is itself
abbrev pub own_step : List Step → Result Said (List ℕ × DeError) → Option Step
own_step path (Ok said) = last_step path
own_step path (Err left) = None

-- how many lists are around an item, its own step, and what stands there
abbrev pub Visited : Type 0
Visited = ℕ × Option Step × Result Said (List ℕ × DeError)

abbrev pub visited : Seen → Visited
visited item = (lists_with (length item.0) item.1, own_step item.0 item.1, item.1)

abbrev pub visit_view : Visit → Visited
visit_view v = (v.lists, v.step, content_view v.content)

-- the first of these items is visited, if there is one, and the others are left; it stands in ten
-- lists at most
abbrev pub VisitsFirst : List Seen → Option Visit → List Seen → Type 0
VisitsFirst items None left = (items ≡ []) × (left ≡ [])
VisitsFirst items (Some v) left =
    (item : Seen) × (items ≡ item ∷ left) × (visited item ≡ visit_view v) × (v.lists ≤ 10)

-- ---- the path of what is visited, by the lists that are open after it

abbrev pub parts_with : ℕ → Result Found Rest → ℕ
parts_with lists (Ok found) = lists
parts_with lists (Err rest) = lists - 1

-- how many parts it has
abbrev pub parts_of : Visit → ℕ
parts_of v = parts_with v.lists v.content

abbrev pub path_in : List Level → ℕ → List Step
path_in levels parts = map (λ (l : Level). l.inside) (take parts levels)

-- the item
abbrev pub item_at : Visit → List Level → Seen
item_at v levels = (path_in levels (parts_of v), content_view v.content)

-- what was left before it, where `later` is left after it: nothing where there is none
abbrev pub next_at : Option Visit → List Level → List Seen → List Seen
next_at None levels later = later
next_at (Some v) levels later = item_at v levels ∷ later
