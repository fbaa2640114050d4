-- Laws of lists of routing attributes.
use Rattle.std.proofs.Common.{◌≡◌, ◌≢◌, ℕ, ◌+◌, List, length, Ok, Err, refl}
use Rattle.neli_wire.specs.Bytes.{short}
use Rattle.neli_wire.specs.declared.errors.DeError.TheVariants.{Memory}
use Rattle.neli_wire.specs.declared.errors.SerError.TheVariants as ser
use Rattle.neli_wire.specs.Frames.{frame_at}
use Rattle.neli_wire.specs.Sizes.{align, EndsInZeros}
use Rattle.neli_wire.specs.laws.Sizes.{unpadded-zeros}
use Rattle.neli_wire.specs.laws.Lists.{elements-no_memory, elements-never_short, wire_all-length, wire_all-no_memory}
use Rattle.neli_wire.specs.laws.Writing.{written-length, written-no_memory}
use Rattle.neli_attr.specs.Attributes.{attribute}
use Rattle.neli_attr.specs.Rtattr.{rtattr_wire}
use Rattle.neli_attr.specs.laws.Attributes.{attribute-no_memory}
use Rattle.neli_attr.specs.laws.Rtattr.{rtattr_wire-length, rtattr_wire-no_memory}
use Rattle.neli_body.specs.Bodies.{body_of, body_wire}
use Rattle.neli_body.specs.laws.Bodies.{body_of-never_short, body_of-no_memory, body_wire-length, body_wire-no_memory}
use Rattle.neli_body.specs.Attributes.{Attrs, attrs_of, attrs_size, attrs_wire}

module _ {T : Type 0} (n : ℕ) (number_of : T → ℕ) where
  attrs_wire-length : (attrs : Attrs T) (bytes : List ℕ) → attrs_wire number_of attrs ≡ Ok bytes
      → length bytes ≡ attrs_size attrs
  attrs_wire-length = wire_all-length (rtattr_wire number_of (λ b. Ok b)) (λ a. align (4 + length a.rta_payload))
      (rtattr_wire-length number_of (λ b. Ok b) length (λ p bytes e. written-length p bytes (length p) refl e))

  attrs_wire-no_memory : (attrs : Attrs T) → attrs_wire number_of attrs ≢ Err ser.Memory
  attrs_wire-no_memory = wire_all-no_memory (rtattr_wire number_of (λ b. Ok b))
      (rtattr_wire-no_memory number_of (λ b. Ok b) written-no_memory)

  -- a header of n bytes and attributes
  pub with_attributes-length : (header : List ℕ) (attrs : Attrs T) → length header ≡ n → (bytes : List ℕ)
      → body_wire header (attrs_wire number_of attrs) ≡ Ok bytes → length bytes ≡ n + attrs_size attrs
  with_attributes-length header attrs size = body_wire-length n header size (attrs_wire number_of attrs)
      (attrs_size attrs) (attrs_wire-length attrs)

  -- they end in no padding of their own
  pub with_attributes-zeros : (header : List ℕ) (attrs : Attrs T) → length header ≡ n → (bytes : List ℕ)
      → body_wire header (attrs_wire number_of attrs) ≡ Ok bytes → EndsInZeros (n + attrs_size attrs) bytes
  with_attributes-zeros header attrs size bytes e = unpadded-zeros (n + attrs_size attrs) bytes
      (with_attributes-length header attrs size bytes e)

  pub with_attributes-no_memory : (header : List ℕ) (attrs : Attrs T)
      → body_wire header (attrs_wire number_of attrs) ≢ Err ser.Memory
  with_attributes-no_memory header attrs = body_wire-no_memory header (attrs_wire number_of attrs)
      (attrs_wire-no_memory attrs)

module _ {T : Type 0} (value_of : ℕ → T) where
  attrs_of-no_memory : (s : List ℕ) → attrs_of value_of s ≢ Err Memory
  attrs_of-no_memory = elements-no_memory (frame_at (attribute value_of (λ b. Ok b)))
      (attribute-no_memory value_of (λ b. Ok b) (λ b e. cc))

  attrs_of-never_short : (s : List ℕ) → attrs_of value_of s ≢ Err short
  attrs_of-never_short = elements-never_short (frame_at (attribute value_of (λ b. Ok b)))

module _ {T H : Type 0} (n : ℕ) (header_of : List ℕ → H) (value_of : ℕ → T) where
  pub with_attributes_of-no_memory : (s : List ℕ) → body_of n header_of (attrs_of value_of) s ≢ Err Memory
  with_attributes_of-no_memory = body_of-no_memory n header_of (attrs_of value_of) (attrs_of-no_memory value_of)

  pub with_attributes_of-never_short : (s : List ℕ) → body_of n header_of (attrs_of value_of) s ≢ Err short
  with_attributes_of-never_short = body_of-never_short n header_of (attrs_of value_of) (attrs_of-never_short value_of)
