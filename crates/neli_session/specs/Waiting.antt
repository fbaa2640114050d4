-- What waits for a reader: messages and losses, in order.
use Rattle.std.specs.Prelude.{◌≡◌, ◌≢◌, ⊤, ℕ, List, [], ◌∷◌, map, Option, Some, None, Result, Ok, Err}
use Rattle.std.specs.List.{flat_map}
use Rattle.neli_lent.specs.Messages.{Lent, message_view}
use Rattle.neli_lent.specs.declared.message.LentMessage.{LentMessage}
use Rattle.neli_session.specs.declared.loss.Loss.{Loss}
use Rattle.neli_session.specs.declared.queue.Entry.{Entry}
use Rattle.neli_session.specs.declared.queue.Entry.TheVariants as entry

-- a message, or a loss in its place
abbrev pub Item : Type 0
Item = Result (Lent ℕ) Loss

-- messages as items
abbrev pub as_items : List (Lent ℕ) → List Item
as_items ms = map (λ m. Ok m) ms

-- the items of an entry: consecutive messages, or one loss
abbrev pub items_of : Entry → List Item
items_of (entry.Messages ms) = as_items ms
items_of (entry.Loss l) = Err l ∷ []

-- all entries' items, in order
abbrev pub all_items : List Entry → List Item
all_items es = flat_map items_of es

-- the entries of a queue: the first, and those after it
abbrev pub entries_in : Option Entry → List Entry → List Entry
entries_in None later = later
entries_in (Some e) later = e ∷ later

-- where there is no first entry, there is none after it
abbrev pub IsFronted : Option Entry → List Entry → Type 0
IsFronted None later = later ≡ []
IsFronted (Some e) later = ⊤

-- no entry is empty
abbrev pub AreFilled : List Entry → Type 0
AreFilled [] = ⊤
AreFilled (e ∷ es) = (items_of e ≢ []) × AreFilled es

-- the lent item is this one
abbrev pub lent_item : Result (LentMessage ℕ) Loss → Item
lent_item (Ok m) = Ok (message_view m)
lent_item (Err l) = Err l
