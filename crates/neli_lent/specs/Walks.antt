-- Walks: the values in a byte list, one by one, and the fault after them.
use Rattle.std.specs.Prelude.{ℕ, Bool, List, [], ◌∷◌, ◌++◌, find, length, map, Option, Some, None, Result, Ok, Err}
use Rattle.neli_wire.specs.declared.errors.DeError.{DeError}
use Rattle.neli_reader.specs.Cuts.{Cut, message_before}

-- the fault, if there is one, as the last item
abbrev pub fault_item : {A : Type 0} → Option DeError → List (Result A DeError)
fault_item None = []
fault_item (Some e) = Err e ∷ []

-- the items of a walk: each value, and then the fault, if there is one
abbrev pub items_of : {A : Type 0} → Cut A → List (Result A DeError)
items_of cut = map (λ a. Ok a) cut.0 ++ fault_item cut.1

-- the cut that an item begins, where `later` is that of the bytes after it
abbrev pub cut_with : {A : Type 0} → Option (Result A DeError) → Cut A → Cut A
cut_with None later = ([], None)
cut_with (Some (Ok a)) later = message_before a later
cut_with (Some (Err e)) later = ([], Some e)

-- ---- questions about the rest

-- the value that was found, or the fault that ended the search
abbrev pub found_or : {A : Type 0} → Option A → Option DeError → Result (Option A) DeError
found_or (Some a) fault = Ok (Some a)
found_or None None = Ok None
found_or None (Some e) = Err e

-- the first selected value; without one the fault
abbrev pub find_in : {A : Type 0} → (A → Bool) → Cut A → Result (Option A) DeError
find_in is_meant cut = found_or (find is_meant cut.0) cut.1

-- this number, if there is no fault
abbrev pub where_whole : ℕ → Option DeError → Result ℕ DeError
where_whole n None = Ok n
where_whole n (Some e) = Err e

-- the number of values, or the fault after them
abbrev pub count_of : {A : Type 0} → Cut A → Result ℕ DeError
count_of cut = where_whole (length cut.0) cut.1

-- ---- items seen by another view

-- the view of a success
abbrev pub map_ok : {A B : Type 0} → (A → B) → Result A DeError → Result B DeError
map_ok f (Ok a) = Ok (f a)
map_ok f (Err e) = Err e

-- the view of an item
abbrev pub map_item : {A B : Type 0} → (A → B) → Option (Result A DeError) → Option (Result B DeError)
map_item f None = None
map_item f (Some item) = Some (map_ok f item)

-- the view of the value found
abbrev pub map_found : {A B : Type 0} → (A → B) → Result (Option A) DeError → Result (Option B) DeError
map_found f (Ok (Some a)) = Ok (Some (f a))
map_found f (Ok None) = Ok None
map_found f (Err e) = Err e
