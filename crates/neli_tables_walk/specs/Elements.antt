-- What lists are made of: attributes, or hops.
use Rattle.std.specs.Prelude.{ℕ, zero, suc, if◌then◌else◌, nat_lt, List, [], ◌∷◌, length, take}
use Rattle.std.specs.Prelude.{Option, Some, None}
use Rattle.std.specs.Prelude.{Ok, Err}
use Rattle.neli_attr.specs.TypeField.{type_of}
use Rattle.neli_attr.specs.AttrType.{AttrType}
use Rattle.neli_attr.specs.Attributes.{Attr, Head}
use Rattle.neli_lent.specs.Attributes.{lent_attribute}
use Rattle.neli_lent.specs.Frames.{headed}
use Rattle.neli_wire.specs.Bytes.{Reading}
use Rattle.neli_wire.specs.declared.errors.DeError.{DeError}
use Rattle.neli_wire.specs.Frames.{Layout, frame_at}
use Rattle.neli_tables_walk.specs.declared.element.Element.{Element}
use Rattle.neli_tables_walk.specs.declared.level.Sort.{Sort}

-- an element: the type field of an attribute, none of a hop; and its payload, of a hop the whole
abbrev pub Elem : Type 0
Elem = Option (AttrType ℕ) × List ℕ

abbrev pub element_view : Element → Elem
element_view element = (element.kind, element.payload.now)

-- ---- one element

-- attributes whose type has two flags above its number, as they lie in bytes
abbrev pub Lent : Type 0
Lent = Attr (AttrType ℕ) (List ℕ)

abbrev pub attribute_layout : Layout (Head (AttrType ℕ)) (List ℕ)
attribute_layout = lent_attribute (type_of (λ n. n))

-- the least size of a hop with a structure of this size: a hop states its length in two bytes, and
-- is padded to four
abbrev pub hop_size : ℕ → ℕ
hop_size header = if nat_lt header 4 then 4 else header

-- hops: a structure that states the length of the whole in its first two bytes, and attributes
abbrev pub hop_layout : ℕ → Layout ℕ (List ℕ)
hop_layout header = headed (hop_size header)

-- an element and what follows it
abbrev pub attribute_read : Reading Lent → Reading Elem
attribute_read (Ok r) = Ok ((Some r.0.0.kind, r.0.1), r.1)
attribute_read (Err e) = Err e

-- the same of a hop, whose payload is the whole, as long as it states
abbrev pub hop_read : List ℕ → Reading (ℕ × List ℕ) → Reading Elem
hop_read bytes (Ok r) = Ok ((None, take r.0.0 bytes), r.1)
hop_read bytes (Err e) = Err e

-- the element of such a list that bytes begin with, or the first fault that holds
abbrev pub element_at : Sort → List ℕ → Reading Elem
element_at sort bytes =
    if sort.is_hops then hop_read bytes (frame_at (hop_layout sort.nest.header) bytes)
    else attribute_read (frame_at attribute_layout bytes)

-- ---- all elements of a list

-- the bytes behind the elements, and why they begin with none; nothing where no byte is left
abbrev pub Left : Type 0
Left = Option (List ℕ × DeError)

abbrev pub Elements : Type 0
Elements = List Elem × Left

abbrev pub element_before : Elem → Elements → Elements
element_before element elements = (element ∷ elements.0, elements.1)

-- the elements of bytes that begin with this reading; `later` has those of a rest
abbrev pub elements_from : List ℕ → Reading Elem → (List ℕ → Elements) → Elements
elements_from bytes (Ok r) later = element_before r.0 (later r.1)
elements_from bytes (Err e) later = ([], Some (bytes, e))

-- the elements of at most `fuel` bytes, one after the other, and what is left
unfoldable pub elements_by : Sort → ℕ → List ℕ → Elements
elements_by sort fuel [] = ([], None)
elements_by sort zero (b ∷ s) = ([], None)
elements_by sort (suc fuel) (b ∷ s) =
    elements_from (b ∷ s) (element_at sort (b ∷ s)) (elements_by sort fuel)

-- the elements of a list, and what is left behind them
unfoldable pub elements_of : Sort → List ℕ → Elements
elements_of sort bytes = elements_by sort (length bytes) bytes
