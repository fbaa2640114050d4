-- The type field of a generic attribute: two flags above a number of 14 bits.
use Rattle.std.specs.Prelude.{ℕ, Bool, false, nat_eq, not, bit_and, bit_or, if◌then◌else◌, codes, unwrap_or, Ok}
use mathlib.Core.Bool.{beq}
use Rattle.std.specs.Ordering.{eq_of_both, on}
use Rattle.neli_attr_parts.specs.declared.attr_type.AttrType.{AttrType}
use Rattle.neli_attr_parts.specs.declared.attr_type.AttrTypeBuilder.{AttrTypeBuilder}
use Rattle.neli_attr_parts.specs.Builders.{Outcome, require_field}

-- whether a number has the bit of this value
abbrev pub has : ℕ → ℕ → Bool
has n bit = not (nat_eq (bit_and n bit) 0)

-- a bit's value if a flag holds, else 0
abbrev pub bit_where : Bool → ℕ → ℕ
bit_where flag bit = if flag then bit else 0

-- the meaning of a field's number: bit 15 is the nested flag, bit 14 that of network order, the others the type
abbrev pub type_of : {T : Type 0} → (ℕ → T) → ℕ → AttrType T
type_of value_of n = record {
  nla_nested = has n 32768;
  nla_network_order = has n 16384;
  nla_type = value_of (bit_and n 16383);
}

-- the same flags with the number's meaning
abbrev pub typed_field : {T : Type 0} → (ℕ → T) → AttrType ℕ → AttrType T
typed_field value_of t = record {
  nla_nested = t.nla_nested;
  nla_network_order = t.nla_network_order;
  nla_type = value_of t.nla_type;
}

-- the number with the two bits set where the flags hold
abbrev pub field_of : ℕ → Bool → Bool → ℕ
field_of n nested network_order = bit_or (bit_or n (bit_where nested 32768)) (bit_where network_order 16384)

-- the number of a field
abbrev pub number_of : {T : Type 0} → (T → ℕ) → AttrType T → ℕ
number_of type_number t = field_of (type_number t.nla_type) t.nla_nested t.nla_network_order

-- whether both flags and the types are equal
abbrev pub attr_type_eq : {T : Type 0} → (T → T → Bool) → AttrType T → AttrType T → Bool
attr_type_eq same = eq_of_both (eq_of_both (on (λ t. t.nla_nested) beq) (on (λ t. t.nla_network_order) beq))
    (on (λ t. t.nla_type) same)

-- the field that a builder makes: a flag that was not given is not set
abbrev pub built_attr_type : {T : Type 0} → AttrTypeBuilder T → Outcome (AttrType T)
built_attr_type b =
    require_field (codes "nla_type") b.nla_type (λ t.
    Ok (record {
      nla_nested = unwrap_or b.nla_nested false;
      nla_network_order = unwrap_or b.nla_network_order false;
      nla_type = t;
    }))
