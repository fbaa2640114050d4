-- Generic attributes: the results of their calls.
use Rattle.std.specs.Prelude.{ℕ, ◌+◌, List, Bool, true, codes, length, nat_eq, Ok}
use Rattle.std.specs.Ordering.{eq_of_both, on}
use Rattle.neli_wire.specs.Writing.{Wire}
use Rattle.neli_attr.specs.Attributes.{Attr, attr, attribute_wire}
use Rattle.neli_attr.specs.TypeField.{attr_type_eq, number_of, typed_field}
use Rattle.neli_attr.specs.AttrType.{AttrType}
use Rattle.neli_attr.specs.declared.nlattr.Nlattr.{Nlattr}
use Rattle.neli_attr.specs.declared.nlattr.NlattrBuilder.{NlattrBuilder}
use Rattle.neli_attr.specs.Builders.{Outcome, require_field, payload_in, ◌>>>◌}

-- an attribute with this type and payload, and the length computed from them
abbrev pub with_length : {T : Type 0} → AttrType T → List ℕ → Nlattr T (List ℕ)
with_length kind bytes = record { nla_len = 4 + length bytes; nla_type = kind; nla_payload = bytes }

-- an attribute with another payload
abbrev pub with_bytes : {T : Type 0} → Nlattr T (List ℕ) → List ℕ → Nlattr T (List ℕ)
with_bytes a bytes = with_length a.nla_type bytes

-- an attribute with another payload, which is a list of attributes
abbrev pub nested_with : {T : Type 0} → Nlattr T (List ℕ) → List ℕ → Nlattr T (List ℕ)
nested_with a bytes = with_length (record a.nla_type { nla_nested = true }) bytes

-- whether lengths, types and payloads are equal
abbrev pub nlattr_eq : {T P : Type 0} → (T → T → Bool) → (P → P → Bool) → Nlattr T P → Nlattr T P → Bool
nlattr_eq same same_payload = eq_of_both (eq_of_both (on (λ a. a.nla_len) nat_eq)
    (on (λ a. a.nla_type) (attr_type_eq same))) (on (λ a. a.nla_payload) same_payload)

-- the attribute that a builder makes of its fields
abbrev pub built_nlattr : {T P : Type 0} → (P → Wire) → NlattrBuilder T P → Outcome (Nlattr T (List ℕ))
built_nlattr wire b =
    require_field (codes "nla_type") b.nla_type (λ kind.
    require_field (codes "nla_payload") b.nla_payload (λ payload.
    payload_in 4 (wire payload) >>> λ bytes. Ok (with_length kind bytes)))

-- ---- as values that are written and read

-- the bytes of an attribute
abbrev pub nlattr_wire : {T P : Type 0} → (T → ℕ) → (P → Wire) → Nlattr T P → Wire
nlattr_wire type_number wire a = attribute_wire a.nla_len (number_of type_number a.nla_type) (wire a.nla_payload)

-- an attribute with a payload of bytes, as read
abbrev pub nlattr_view : {T : Type 0} → Nlattr T (List ℕ) → Attr (AttrType T) (List ℕ)
nlattr_view a = attr a.nla_len a.nla_type a.nla_payload

-- the same attribute with the meaning of its type's number
abbrev pub typed_attribute : {T : Type 0} → (ℕ → T) → Nlattr ℕ (List ℕ) → Nlattr T (List ℕ)
typed_attribute value_of a = record {
  nla_len = a.nla_len;
  nla_type = typed_field value_of a.nla_type;
  nla_payload = a.nla_payload;
}
