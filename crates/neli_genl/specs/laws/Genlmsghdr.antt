-- Laws of messages of generic netlink.
use Rattle.std.proofs.Common.{◌≡◌, ◌≢◌, ℕ, ◌+◌, ◌%◌, ltb, List, drop, length, Result, Ok, Err, refl, ap, arith}
use Rattle.std.proofs.Common.{length-append}
use Rattle.std.specs.Prelude.{nat_eq, not}
use Rattle.neli_attr.specs.Attributes.{attribute, attributes_in}
use Rattle.neli_attr.specs.Nlattr.{nlattr_wire}
use Rattle.neli_attr.specs.TypeField.{type_of}
use Rattle.neli_attr.specs.laws.Attributes.{attribute-no_memory}
use Rattle.neli_attr.specs.laws.Nlattr.{nlattr_wire-length, nlattr_wire-no_memory}
use Rattle.neli_genl.specs.Genlmsghdr.{Attrs, attrs_size, attrs_wire, genlmsghdr_bytes, genlmsghdr_of, genlmsghdr_size}
use Rattle.neli_genl.specs.Genlmsghdr.{genlmsghdr_wire, parts_of}
use Rattle.neli_genl.specs.declared.genlmsghdr.Genlmsghdr.{Genlmsghdr}
use Rattle.neli_wire.specs.Bytes.{Reading, short}
use Rattle.neli_wire.specs.declared.errors.DeError.{DeError}
use Rattle.neli_wire.specs.declared.errors.DeError.TheVariants.{InvalidInput, Memory}
use Rattle.neli_wire.specs.declared.errors.SerError.TheVariants as ser
use Rattle.neli_wire.specs.Frames.{frame_at}
use Rattle.neli_wire.specs.laws.Lists.{both_written, both-no_memory, elements-no_memory, elements-never_short}
use Rattle.neli_wire.specs.laws.Lists.{map_refusal-never_short, map_refusal-no_memory, wire_all-length}
use Rattle.neli_wire.specs.laws.Lists.{wire_all-no_memory}
use Rattle.neli_wire.specs.Reading.{map_refusal, refusal_within}
use Rattle.neli_wire.specs.laws.Reading.{bind-not, guard-not}
use Rattle.neli_wire.specs.Sizes.{align, EndsInZeros}
use Rattle.neli_wire.specs.laws.Sizes.{unpadded-zeros}
use Rattle.neli_wire.specs.Writing.{Wire, ◌+++◌}
use Rattle.neli_wire.specs.laws.Writing.{written-length, written-no_memory}

module _ {T : Type 0} (type_number : T → ℕ) where
  attrs_wire-length : (attrs : Attrs T) (bytes : List ℕ) → attrs_wire type_number attrs ≡ Ok bytes
      → length bytes ≡ attrs_size attrs
  attrs_wire-length = wire_all-length (nlattr_wire type_number (λ b. Ok b)) (λ a. align (4 + length a.nla_payload))
      (nlattr_wire-length type_number (λ b. Ok b) length (λ p bytes e. written-length p bytes (length p) refl e))

  attrs_wire-no_memory : (attrs : Attrs T) → attrs_wire type_number attrs ≢ Err ser.Memory
  attrs_wire-no_memory = wire_all-no_memory (nlattr_wire type_number (λ b. Ok b))
      (nlattr_wire-no_memory type_number (λ b. Ok b) written-no_memory)

module _ {C T H : Type 0} (cmd_number : C → ℕ) (type_number : T → ℕ) (header_wire : H → Wire) where
  pub genlmsghdr_wire-length : (header_size : H → ℕ) → ((h : H) (bytes : List ℕ) → header_wire h ≡ Ok bytes
      → length bytes ≡ header_size h) → (m : Genlmsghdr C T H) (bytes : List ℕ)
      → genlmsghdr_wire cmd_number type_number header_wire m ≡ Ok bytes → length bytes ≡ genlmsghdr_size header_size m
  genlmsghdr_wire-length header_size each m bytes e =
      let front = genlmsghdr_bytes (cmd_number m.cmd) m.version m.reserved in
      let p = both_written (Ok front +++ header_wire m.header) (attrs_wire type_number m.attrs) bytes e in
      let q = both_written (Ok front) (header_wire m.header) p.0 p.2 in
      let same : front ≡ q.0 = cc (q.2) in
      let four : length front ≡ 4 = refl in
      omega (
        arith,
        ap length p.4,
        length-append p.0 p.1,
        ap length q.4,
        length-append q.0 q.1,
        ap length same,
        four,
        each m.header q.1 q.3,
        attrs_wire-length type_number m.attrs p.1 p.3,
      )

  -- it ends in no padding of its own
  pub genlmsghdr_wire-zeros : (header_size : H → ℕ) → ((h : H) (bytes : List ℕ) → header_wire h ≡ Ok bytes
      → length bytes ≡ header_size h) → (m : Genlmsghdr C T H) (bytes : List ℕ)
      → genlmsghdr_wire cmd_number type_number header_wire m ≡ Ok bytes
      → EndsInZeros (genlmsghdr_size header_size m) bytes
  genlmsghdr_wire-zeros header_size each m bytes e = unpadded-zeros (genlmsghdr_size header_size m) bytes
      (genlmsghdr_wire-length header_size each m bytes e)

  pub genlmsghdr_wire-no_memory : ((h : H) → header_wire h ≢ Err ser.Memory) → (m : Genlmsghdr C T H)
      → genlmsghdr_wire cmd_number type_number header_wire m ≢ Err ser.Memory
  genlmsghdr_wire-no_memory none m =
      both-no_memory (Ok (genlmsghdr_bytes (cmd_number m.cmd) m.version m.reserved) +++ header_wire m.header)
      (attrs_wire type_number m.attrs)
      (both-no_memory (Ok (genlmsghdr_bytes (cmd_number m.cmd) m.version m.reserved)) (header_wire m.header)
      (written-no_memory (genlmsghdr_bytes (cmd_number m.cmd) m.version m.reserved)) (none m.header))
      (attrs_wire-no_memory type_number m.attrs)

module _ {V A : Type 0} (header_at : List ℕ → Reading V) (attrs_of : List ℕ → Result A DeError) where
  pub parts_of-not : (d : DeError) (n : ℕ) (s : List ℕ) → map_refusal (refusal_within n) (header_at s) ≢ Err d
      → ((t : List ℕ) → attrs_of t ≢ Err d) → parts_of header_at attrs_of n s ≢ Err d
  unfolding parts_of
  parts_of-not d n s header attrs =
      bind-not (map_refusal (refusal_within n) (header_at s)) _ d header
      (λ h. bind-not (attrs_of h.1) _ d (attrs h.1) (λ list e. cc))

module _ {C T V : Type 0} (width : ℕ) (cmd_of : ℕ → C) (value_of : ℕ → T) (header_at : List ℕ → Reading V) where
  genlmsghdr_of-not : (d : DeError) → ((n : ℕ) → InvalidInput n ≢ d)
      → ((n : ℕ) (s : List ℕ) → map_refusal (refusal_within n) (header_at s) ≢ Err d)
      → ((s : List ℕ) → attributes_in (type_of value_of) s ≢ Err d) → (s : List ℕ)
      → genlmsghdr_of width cmd_of value_of header_at s ≢ Err d
  genlmsghdr_of-not d input headers attrs s =
      guard-not (not (nat_eq (width % 4) 0)) (InvalidInput (length s)) d _ (input (length s))
      (guard-not (ltb (length s) 4) (InvalidInput (length s)) d _ (input (length s))
      (bind-not (parts_of header_at (attributes_in (type_of value_of)) (length s) (drop 4 s)) _ d
      (parts_of-not header_at (attributes_in (type_of value_of)) d (length s) (drop 4 s)
      (headers (length s) (drop 4 s)) attrs)
      (λ parts e. cc)))

  pub genlmsghdr_of-no_memory : ((s : List ℕ) → header_at s ≢ Err Memory) → (s : List ℕ)
      → genlmsghdr_of width cmd_of value_of header_at s ≢ Err Memory
  genlmsghdr_of-no_memory none =
      genlmsghdr_of-not Memory (λ n e. cc) (λ n s. map_refusal-no_memory n (header_at s) (none s))
      (elements-no_memory (frame_at (attribute (type_of value_of) (λ b. Ok b)))
      (attribute-no_memory (type_of value_of) (λ b. Ok b) (λ b e. cc)))

  pub genlmsghdr_of-never_short : (s : List ℕ) → genlmsghdr_of width cmd_of value_of header_at s ≢ Err short
  genlmsghdr_of-never_short =
      genlmsghdr_of-not short (λ n e. cc) (λ n s. map_refusal-never_short n (header_at s))
      (elements-never_short (frame_at (attribute (type_of value_of) (λ b. Ok b))))
