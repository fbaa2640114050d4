-- Laws of routing attributes, which the impls cite.
use Rattle.std.proofs.Common.{◌≡◌, ◌≢◌, ℕ, ◌+◌, List, length, Ok, Err}
use Rattle.neli_wire.specs.declared.errors.SerError.TheVariants as ser
use Rattle.neli_wire.specs.Sizes.{EndsInZeros, align}
use Rattle.neli_wire.specs.Writing.{Wire}
use Rattle.neli_attr.specs.laws.Attributes.{attribute_wire-length, attribute_wire-no_memory, attribute_wire-zeros}
use Rattle.neli_attr.specs.Rtattr.{rtattr_wire}
use Rattle.neli_attr.specs.declared.rtattr.Rtattr.{Rtattr}

module _ {T P : Type 0} (type_number : T → ℕ) (wire : P → Wire) where
  pub rtattr_wire-length : (size : P → ℕ) → ((p : P) (bytes : List ℕ) → wire p ≡ Ok bytes → length bytes ≡ size p)
      → (a : Rtattr T P) (bytes : List ℕ) → rtattr_wire type_number wire a ≡ Ok bytes
      → length bytes ≡ align (4 + size a.rta_payload)
  rtattr_wire-length size each a = attribute_wire-length a.rta_len (type_number a.rta_type) (size a.rta_payload)
      (wire a.rta_payload) (each a.rta_payload)

  pub rtattr_wire-zeros : (size : P → ℕ) → ((p : P) (bytes : List ℕ) → wire p ≡ Ok bytes → length bytes ≡ size p)
      → (a : Rtattr T P) (bytes : List ℕ) → rtattr_wire type_number wire a ≡ Ok bytes
      → EndsInZeros (4 + size a.rta_payload) bytes
  rtattr_wire-zeros size each a = attribute_wire-zeros a.rta_len (type_number a.rta_type) (size a.rta_payload)
      (wire a.rta_payload) (each a.rta_payload)

  pub rtattr_wire-no_memory : ((p : P) → wire p ≢ Err ser.Memory) → (a : Rtattr T P)
      → rtattr_wire type_number wire a ≢ Err ser.Memory
  rtattr_wire-no_memory none a = attribute_wire-no_memory a.rta_len (type_number a.rta_type) (wire a.rta_payload)
      (none a.rta_payload)
