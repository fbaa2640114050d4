-- Attributes with lent payloads: the bytes that they were read from.
use Rattle.std.specs.Prelude.{ℕ, List, length, option_map, Ok}
use Rattle.neli_wire.specs.Frames.{Layout}
use Rattle.neli_wire.specs.Place.{Place, whole}
use Rattle.neli_wire.specs.Reading.{refusal_within}
use Rattle.neli_attr.specs.Attributes.{Attr, Head, attr, attribute}
use Rattle.neli_reader.specs.Cuts.{Cut, cut_of}
use Rattle.neli_lent.specs.declared.attribute.LentAttr.{LentAttr}

-- their layout: that of attributes, each with its payload's bytes
abbrev pub lent_attribute : {K : Type 0} → (ℕ → K) → Layout (Head K) (List ℕ)
lent_attribute kind_of = attribute kind_of (λ bytes. Ok bytes)

-- an attribute's header and payload
abbrev pub attribute_view : {K : Type 0} → LentAttr K → Attr K (List ℕ)
attribute_view a = attr a.len a.kind a.payload.now

-- the rest at a place: the attributes, and the fault after them, which refuses the whole list
unfoldable pub attributes_at : {K : Type 0} → (ℕ → K) → Place → Cut (Attr K (List ℕ))
attributes_at kind_of place =
    let cut = cut_of (lent_attribute kind_of) place.rest in
    (cut.0, option_map (refusal_within (length (whole place))) cut.1)
