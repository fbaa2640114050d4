-- What is asked of a message, and whether the items of a walk are that.
use Rattle.std.specs.Prelude.{ℕ, ◌+◌, Bool, true, false, ◌&&◌, ◌==◌, is_none, List, [], ◌∷◌, length, drop, take}
use Rattle.std.specs.Prelude.{Option, Some, None, Result, Ok, Err}
use Rattle.std.specs.Str.{bytes_eq}
use Rattle.neli_attr.specs.AttrType.{AttrType}
use Rattle.neli_attr.specs.TypeField.{number_of}
use Rattle.neli_wire.specs.declared.errors.DeError.{DeError}
use Rattle.neli_tables_walk.specs.declared.shape.Shape.{Shape}
use Rattle.neli_tables_walk.specs.declared.shape.Shape.TheVariants as shape
use Rattle.neli_tables_walk.specs.Walks.{Said, Seen}
use Rattle.neli_tables_write.specs.declared.asked.Asked.{Asked}
use Rattle.neli_tables_write.specs.declared.asked.Part.{Part}
use Rattle.neli_tables_write.specs.declared.asked.Part.TheVariants as part

-- the lists around it, what it is, and its bytes
abbrev pub AskedSeen : Type 0
AskedSeen = ℕ × Part × List ℕ

abbrev pub asked_view : Asked → AskedSeen
asked_view a = (a.lists, a.part, a.bytes.items)

abbrev pub is_field : Option (AttrType ℕ) → ℕ → Bool
is_field (Some kind) field = number_of (λ n. n) kind == field
is_field None field = false

-- a nest with this structure before its attributes
abbrev pub is_nest : ℕ → Option (AttrType ℕ) → List ℕ → Part → List ℕ → Bool
is_nest header kind payload (part.Nest field) bytes = is_field kind field && bytes_eq (take header payload) bytes
is_nest header kind payload part.Hop bytes = is_none kind && bytes_eq (drop 2 (take header payload)) (drop 2 bytes)
is_nest header kind payload p bytes = false

abbrev pub is_hops : Option (AttrType ℕ) → Part → Bool
is_hops kind (part.Hops field) = is_field kind field
is_hops kind p = false

abbrev pub is_attribute : Option (AttrType ℕ) → List ℕ → Part → List ℕ → Bool
is_attribute kind payload (part.Attribute field) bytes = is_field kind field && bytes_eq payload bytes
is_attribute kind payload p bytes = false

-- what was found is this: by what it is, its type field and its payload
abbrev pub is_found : Shape → Option (AttrType ℕ) → List ℕ → Part → List ℕ → Bool
is_found (shape.Nest nest) kind payload p bytes = is_nest nest.header kind payload p bytes
is_found (shape.Hops nest) kind payload p bytes = is_hops kind p
is_found s kind payload p bytes = is_attribute kind payload p bytes

abbrev pub is_rest : Part → Bool
is_rest part.Rest = true
is_rest p = false

abbrev pub is_said : ℕ → Result Said (List ℕ × DeError) → AskedSeen → Bool
is_said lists (Ok said) a = lists == a.0 && is_found said.2 said.0 said.1 a.1 a.2
is_said lists (Err left) a = lists + 1 == a.0 && (is_rest a.1 && bytes_eq left.0 a.2)

-- an item of a walk is what is asked for
abbrev pub is_asked : Seen → AskedSeen → Bool
is_asked item a = is_said (length item.0) item.1 a

-- the items are what is asked for, one by one
abbrev pub are_asked : List Seen → List AskedSeen → Bool
are_asked [] [] = true
are_asked [] (a ∷ asked) = false
are_asked (item ∷ items) [] = false
are_asked (item ∷ items) (a ∷ asked) = is_asked item a && are_asked items asked

abbrev pub is_nothing : List AskedSeen → Bool
is_nothing [] = true
is_nothing (a ∷ asked) = false

-- the same of a body, which may have no list of attributes
abbrev pub says : Option (List Seen) → List AskedSeen → Bool
says None asked = is_nothing asked
says (Some items) asked = are_asked items asked
