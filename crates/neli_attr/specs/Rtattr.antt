-- Routing attributes: the results of their calls.
use Rattle.std.specs.Prelude.{ℕ, ◌+◌, List, codes, length, Ok}
use Rattle.neli_wire.specs.Writing.{Wire}
use Rattle.neli_attr.specs.Attributes.{Attr, attr, attribute_wire}
use Rattle.neli_attr.specs.declared.rtattr.Rtattr.{Rtattr}
use Rattle.neli_attr.specs.declared.rtattr.RtattrBuilder.{RtattrBuilder}
use Rattle.neli_attr.specs.Builders.{Outcome, require_field, payload_in, ◌>>>◌}

-- an attribute with this type and payload, and the length computed from them
abbrev pub with_length : {T : Type 0} → T → List ℕ → Rtattr T (List ℕ)
with_length kind bytes = record { rta_len = 4 + length bytes; rta_type = kind; rta_payload = bytes }

-- an attribute with another payload
abbrev pub with_bytes : {T : Type 0} → Rtattr T (List ℕ) → List ℕ → Rtattr T (List ℕ)
with_bytes a bytes = with_length a.rta_type bytes

-- the attribute that a builder makes of its fields
abbrev pub built_rtattr : {T P : Type 0} → (P → Wire) → RtattrBuilder T P → Outcome (Rtattr T (List ℕ))
built_rtattr wire b =
    require_field (codes "rta_type") b.rta_type (λ kind.
    require_field (codes "rta_payload") b.rta_payload (λ payload.
    payload_in 4 (wire payload) >>> λ bytes. Ok (with_length kind bytes)))

-- ---- as values that are written and read

-- the bytes of an attribute
abbrev pub rtattr_wire : {T P : Type 0} → (T → ℕ) → (P → Wire) → Rtattr T P → Wire
rtattr_wire type_number wire a = attribute_wire a.rta_len (type_number a.rta_type) (wire a.rta_payload)

-- an attribute with a payload of bytes, as read
abbrev pub rtattr_view : {T : Type 0} → Rtattr T (List ℕ) → Attr T (List ℕ)
rtattr_view a = attr a.rta_len a.rta_type a.rta_payload
