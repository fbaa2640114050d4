-- Laws of generic attributes, which the impls cite.
use Rattle.std.proofs.Common.{◌≡◌, ◌≢◌, ℕ, ◌+◌, Bool, List, length, Ok, Err}
use Rattle.neli_wire.specs.declared.errors.SerError.TheVariants as ser
use Rattle.neli_wire.specs.Sizes.{EndsInZeros, align}
use Rattle.neli_wire.specs.Writing.{Wire}
use Rattle.neli_attr.specs.laws.Attributes.{attribute_wire-length, attribute_wire-no_memory, attribute_wire-zeros}
use Rattle.std.specs.Cmp.{IsEquivalence, IsPartialEquivalence, and_equiv, and_per}
use Rattle.std.specs.Cmp.{nat_eq_equiv, on_equiv, on_per, partial_equiv_from_equiv}
use Rattle.neli_attr.specs.TypeField.{number_of}
use Rattle.neli_attr.specs.laws.TypeField.{attr_type_equiv, attr_type_per}
use Rattle.neli_attr.specs.Nlattr.{nlattr_eq, nlattr_wire}
use Rattle.neli_attr.specs.declared.nlattr.Nlattr.{Nlattr}

module _ {T P : Type 0} (type_number : T → ℕ) (wire : P → Wire) where
  pub nlattr_wire-length : (size : P → ℕ) → ((p : P) (bytes : List ℕ) → wire p ≡ Ok bytes → length bytes ≡ size p)
      → (a : Nlattr T P) (bytes : List ℕ) → nlattr_wire type_number wire a ≡ Ok bytes
      → length bytes ≡ align (4 + size a.nla_payload)
  nlattr_wire-length size each a = attribute_wire-length a.nla_len (number_of type_number a.nla_type)
      (size a.nla_payload) (wire a.nla_payload) (each a.nla_payload)

  pub nlattr_wire-zeros : (size : P → ℕ) → ((p : P) (bytes : List ℕ) → wire p ≡ Ok bytes → length bytes ≡ size p)
      → (a : Nlattr T P) (bytes : List ℕ) → nlattr_wire type_number wire a ≡ Ok bytes
      → EndsInZeros (4 + size a.nla_payload) bytes
  nlattr_wire-zeros size each a = attribute_wire-zeros a.nla_len (number_of type_number a.nla_type) (size a.nla_payload)
      (wire a.nla_payload) (each a.nla_payload)

  pub nlattr_wire-no_memory : ((p : P) → wire p ≢ Err ser.Memory) → (a : Nlattr T P)
      → nlattr_wire type_number wire a ≢ Err ser.Memory
  nlattr_wire-no_memory none a = attribute_wire-no_memory a.nla_len (number_of type_number a.nla_type)
      (wire a.nla_payload) (none a.nla_payload)

-- ---- equality

pub nlattr_per : {T P : Type 0} {same : T → T → Bool} {same_payload : P → P → Bool} → IsPartialEquivalence same
    → IsPartialEquivalence same_payload → IsPartialEquivalence (nlattr_eq same same_payload)
nlattr_per types payloads = and_per (and_per (on_per (λ a. a.nla_len) (partial_equiv_from_equiv nat_eq_equiv))
    (on_per (λ a. a.nla_type) (attr_type_per types))) (on_per (λ a. a.nla_payload) payloads)

pub nlattr_equiv : {T P : Type 0} {same : T → T → Bool} {same_payload : P → P → Bool} → IsEquivalence same
    → IsEquivalence same_payload → IsEquivalence (nlattr_eq same same_payload)
nlattr_equiv types payloads = and_equiv (and_equiv (on_equiv (λ a. a.nla_len) nat_eq_equiv)
    (on_equiv (λ a. a.nla_type) (attr_type_equiv types))) (on_equiv (λ a. a.nla_payload) payloads)
