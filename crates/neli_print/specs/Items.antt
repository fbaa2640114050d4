-- Items of a walk, whatever the form that prints them.
use Rattle.std.specs.Prelude.{ℕ, ◌+◌, max, min, Bool, true, false, List, Result, Ok, Err}
use Rattle.neli_wire.specs.declared.errors.DeError.{DeError}
use Rattle.neli_tables_walk.specs.declared.shape.Shape.{Shape}
use Rattle.neli_tables_walk.specs.declared.shape.Shape.TheVariants.{Nest, Hops}
use Rattle.neli_tables_walk.specs.Visited.{Visited, visited}
use Rattle.neli_tables_walk.specs.Walks.{Said, Seen, content_view}
use Rattle.neli_print.specs.declared.item.Entry.{Entry}
use Rattle.neli_print.specs.declared.item.Open.{Open}

-- what an entry says
abbrev pub entry_view : Entry → Visited
entry_view e = (e.lists, e.step, content_view e.content.now)

abbrev pub has_items : Shape → Bool
has_items (Nest nest) = true
has_items (Hops nest) = true
has_items s = false

-- items in a list come next
abbrev pub opens_list : Result Said (List ℕ × DeError) → Bool
opens_list (Ok said) = has_items said.2
opens_list (Err left) = false

-- ---- the lists of JSON that are open between two items

-- around an item that is in so many: as many, but no more than were open, and one at least
abbrev pub depth_in : Open → ℕ → ℕ
depth_in o lists = max (min lists o.lists) 1

abbrev pub opened : ℕ → Bool → Open
opened depth true = record { lists = depth + 1; is_first = true }
opened depth false = record { lists = depth; is_first = false }

-- what is open after what is visited
abbrev pub after_visit : Open → Visited → Open
after_visit o v = opened (depth_in o v.0) (opens_list v.2)

-- and after an item
abbrev pub after_item : Open → Seen → Open
after_item o item = after_visit o (visited item)
