-- Lists of routing attributes with payloads of bytes, which end most bodies of routing netlink.
use Rattle.std.specs.Prelude.{ℕ, ◌+◌, List, length, map, sum_by, Result, Ok}
use Rattle.neli_wire.specs.declared.errors.DeError.{DeError}
use Rattle.neli_wire.specs.Writing.{Wire, wire_all}
use Rattle.neli_wire.specs.Sizes.{align}
use Rattle.neli_attr.specs.Attributes.{Attr, attributes_in}
use Rattle.neli_attr.specs.declared.rtattr.Rtattr.{Rtattr}
use Rattle.neli_attr.specs.Rtattr.{rtattr_view, rtattr_wire}

-- a list of attributes as contracts see it
abbrev pub Attrs : Type 0 → Type 0
Attrs T = List (Rtattr T (List ℕ))

-- their bytes, one after the other
abbrev pub attrs_wire : {T : Type 0} → (T → ℕ) → Attrs T → Wire
attrs_wire number_of = wire_all (rtattr_wire number_of (λ bytes. Ok bytes))

-- their length on the wire
abbrev pub attrs_size : {T : Type 0} → Attrs T → ℕ
attrs_size = sum_by (λ a. align (4 + length a.rta_payload))

-- the header and the payload of each
abbrev pub AttributesRead : Type 0 → Type 0
AttributesRead T = List (Attr T (List ℕ))

-- a list of attributes, as read
abbrev pub attrs_view : {T : Type 0} → Attrs T → AttributesRead T
attrs_view = map rtattr_view

-- the attributes listed in a whole byte list
abbrev pub attrs_of : {T : Type 0} → (ℕ → T) → List ℕ → Result (AttributesRead T) DeError
attrs_of = attributes_in
