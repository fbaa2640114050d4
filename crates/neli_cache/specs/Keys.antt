-- Which object a message is about, and its key.
use Rattle.std.specs.Prelude.{ℕ, Bool, true, false, ◌&&◌, ◌==◌, nat_le, if◌then◌else◌, List, [], ◌++◌}
use Rattle.std.specs.Prelude.{Option, None, Some, Result, Ok, Err, drop, flat_map, length, slice_get, slice_range, min}
use Rattle.std.specs.Option.{option_copied}
use Rattle.std.specs.Int.{to_le_bytes, w16}
use Rattle.neli_attr_parts.specs.Attributes.{Attr}
use Rattle.neli_lent.specs.Attributes.{attributes_at}
use Rattle.neli_lent.specs.Messages.{Lent}
use Rattle.neli_lent.specs.Walks.{find_in}
use Rattle.neli_wire.specs.declared.errors.DeError.{DeError}
use Rattle.neli_cache.specs.declared.keys.Keys.{Keys}
use Rattle.neli_cache.specs.declared.keys.Part.{Part}
use Rattle.neli_cache.specs.declared.keys.Part.TheVariants as part
use Rattle.neli_cache.specs.declared.keys.Told.{Told}

-- ---- the parts of a key

abbrev pub found_part : Result (Option (Attr ℕ (List ℕ))) DeError → Option (Attr ℕ (List ℕ))
found_part (Ok a) = a
found_part (Err e) = None

-- the first attribute of this type, if one stands before the first that cannot be read
abbrev pub attribute_part : ℕ → List ℕ → Option (Attr ℕ (List ℕ))
attribute_part t bytes =
    found_part (find_in (λ a. a.0.kind == t) (attributes_at (λ n. n) (record { before = []; rest = bytes })))

-- its length and its type, two bytes each, and its payload
abbrev pub attribute_bytes : Option (Attr ℕ (List ℕ)) → List ℕ
attribute_bytes None = []
attribute_bytes (Some a) = to_le_bytes w16 a.0.len ++ to_le_bytes w16 a.0.kind ++ a.1

-- a part of a payload with a header of this length
abbrev pub part_of : ℕ → List ℕ → Part → List ℕ
part_of header payload part.Nothing = []
part_of header payload (part.Bytes start end) = slice_range payload start (min end (length payload))
part_of header payload (part.Attribute t) = attribute_bytes (attribute_part t (drop header payload))

-- the key of a payload: its parts, one after the other
abbrev pub key_of : Keys → List ℕ → List ℕ
key_of ks payload = flat_map (part_of ks.header payload) ks.parts

-- ---- what a message says

-- the first byte is this one, if one is asked for
abbrev pub starts_as : Option ℕ → Option ℕ → Bool
starts_as None first = true
starts_as (Some family) None = false
starts_as (Some family) (Some first) = first == family

-- a payload is meant where it has a header, and is of the family
abbrev pub is_meant : Keys → List ℕ → Bool
is_meant ks payload = nat_le ks.header (length payload) && starts_as ks.family (slice_get payload 0)

-- of the object with this key: its payload, or that it is gone
abbrev pub Said : Type 0
Said = List ℕ × Option (List ℕ)

abbrev pub told : Told → Said
told t = (t.key.items, option_copied t.payload)

abbrev pub said_as : Keys → ℕ → List ℕ → Option Said
said_as ks kind payload =
    if kind == ks.new_type then Some (key_of ks payload, Some payload)
    else (if kind == ks.gone_type then Some (key_of ks payload, None) else None)

-- what a message says of which object; none where it is about none
abbrev pub said : Keys → Lent ℕ → Option Said
said ks m = if is_meant ks m.1 then said_as ks m.0.message_type m.1 else None
