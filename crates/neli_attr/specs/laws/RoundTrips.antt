-- Laws of attributes that are written and read again.
use Rattle.std.proofs.Common.{◌≡◌, ℕ, ◌+◌, ◌-◌, ◌*◌, ◌/◌, ◌%◌, ◌^◌, ◌<◌, Bool, true}
use Rattle.std.proofs.Common.{false, List, [], ◌∷◌, ◌++◌, length, map, take, drop, bit_and, bit_or}
use Rattle.std.proofs.Common.{Result, Ok, refl, sym, ap, subst, ◌∙◌, append_assoc, arith, length-append}
use Rattle.std.specs.Prelude.{nat_eq, not}
use Rattle.std.specs.List.{All}
use Rattle.std.proofs.lemmas.List.{take_at, drop_at, length-replicate}
use Rattle.std.proofs.lemmas.List.Elements.{All-head, All-tail}
use Rattle.std.proofs.lemmas.Nat.{and_mask, or_lt}
use Rattle.std.proofs.lemmas.Nat.Bits.{and_pow}
use Rattle.byteorder.specs.Endian.{little_bytes, little_number}
use Rattle.byteorder.specs.Numbers.{little_number-reads_back}
use Rattle.neli_wire.specs.declared.errors.DeError.{DeError}
use Rattle.neli_wire.specs.Sizes.{align}
use Rattle.neli_wire.specs.Frames.{Layout, IsFrame, AreFrames, number_in}
use Rattle.neli_wire.specs.laws.FrameLists.{frames-list}
use Rattle.neli_wire.specs.laws.Frames.{frame_at-frame}
use Rattle.neli_wire.specs.laws.Numbers.{count-unsigned}
use Rattle.neli_wire.specs.Writing.{Wire, wire_all, zeros_for}
use Rattle.neli_attr.specs.AttrType.{AttrType}
use Rattle.neli_attr.specs.Attributes.{Attr, attr, attribute, attribute_wire, attributes_in}
use Rattle.neli_attr.specs.RoundTrips.{IsReadBack, KeepsField}
use Rattle.neli_attr.specs.TypeField.{bit_where, field_of, has, number_of, type_of}
use Rattle.neli_attr.specs.laws.Attributes.{attribute-placed}
use Rattle.neli_attr.specs.laws.TypeField.{field_of-sum}

-- ---- a written attribute

-- the bytes of an attribute with this payload
abbrev pub attribute_bytes : ℕ → ℕ → List ℕ → List ℕ
attribute_bytes len kind bytes =
    let text : List ℕ = (little_bytes 2 len ++ little_bytes 2 kind) ++ bytes in text ++ zeros_for (length text)

module _ {K V : Type 0} (kind_of : ℕ → K) (payload_of : List ℕ
    → Result V DeError) (kind : ℕ) (bytes : List ℕ) (v : V) where
  -- it is a frame of these values
  pub attribute_bytes-frame : kind < 65536 → 4 + length bytes < 65536 → payload_of bytes ≡ Ok v
      → IsFrame (attribute kind_of payload_of) (attribute_bytes (4 + length bytes) kind bytes)
      (record { len = 4 + length bytes; kind = kind_of kind }) v
  attribute_bytes-frame small fits reads =
      let len = 4 + length bytes in
      let one : List ℕ = little_bytes 2 len in
      let two : List ℕ = little_bytes 2 kind in
      let text : List ℕ = (one ++ two) ++ bytes in
      let zeros : List ℕ = zeros_for (length text) in
      let l1 : length one ≡ 2 = count-unsigned 2 len in
      let l2 : length two ≡ 2 = count-unsigned 2 kind in
      let l12 : length (one ++ two) ≡ 4 = omega (arith, length-append one two, l1, l2) in
      let lt : length text ≡ len = omega (arith, length-append (one ++ two) bytes, l12) in
      let lz : length zeros ≡ align (length text) - length text =
      length-replicate {A = ℕ} (align (length text) - length text) 0 in
      let first : text ++ zeros ≡ one ++ (two ++ (bytes ++ zeros)) = simp append_assoc in
      let after : text ++ zeros ≡ (one ++ two) ++ (bytes ++ zeros) = append_assoc (one ++ two) bytes zeros in
      let place2 : drop 2 (text ++ zeros) ≡ two ++ (bytes ++ zeros) = ap (drop 2) first
      ∙ drop_at one (two ++ (bytes ++ zeros)) 2 l1 in
      let place4 : drop 4 (text ++ zeros) ≡ bytes ++ zeros = ap (drop 4) after
      ∙ drop_at (one ++ two) (bytes ++ zeros) 4 l12 in
      let the_len : number_in 2 0 (text ++ zeros) ≡ len = ap (little_number 2) first
      ∙ little_number-reads_back 2 len (two ++ (bytes ++ zeros)) fits in
      let the_kind : number_in 2 2 (text ++ zeros) ≡ kind = ap (little_number 2) place2
      ∙ little_number-reads_back 2 kind (bytes ++ zeros) small in
      let body : take (len - 4) (drop 4 (text ++ zeros)) ≡ bytes = ap (take (len - 4)) place4
      ∙ take_at bytes zeros (len - 4) (omega arith) in
      record {
        header_is = rw (the_len, the_kind) refl;
        least = omega arith;
        whole = omega (arith, length-append text zeros, lz, lt, ap align lt);
        payload_is = ap payload_of body ∙ reads;
      }

-- an attribute whose length is that of its payload is read back
pub attribute-reads_back : {K : Type 0} (kind_of : ℕ → K) (len kind : ℕ) (payload : List ℕ) → kind < 65536
    → len ≡ 4 + length payload → 4 + length payload < 65536 → IsReadBack kind_of len kind payload
attribute-reads_back {K} kind_of len kind payload small is fits =
    let text : List ℕ = attribute_bytes (4 + length payload) kind payload in
    let frame = attribute_bytes-frame kind_of (λ (bytes : List ℕ). Ok bytes) kind payload payload small fits refl in
    let read : Attr K (List ℕ) = attr (4 + length payload) (kind_of kind) payload in
    let back : IsReadBack kind_of (4 + length payload) kind payload = (
      text,
      refl,
      λ rest. frame_at-frame (attribute kind_of (λ (bytes : List ℕ). Ok bytes))
          (attribute-placed kind_of (λ (bytes : List ℕ). Ok bytes)) text rest read.0 read.1 frame,
    ) in
    subst (λ (n : ℕ). IsReadBack kind_of n kind payload) (sym is) back

-- ---- lists

-- each of these values is written as a frame of its header and payload
abbrev pub IsWrittenAs : {A H V : Type 0} → Layout H V → (A → Wire) → (A → H × V) → A → Type 0
IsWrittenAs layout wire says a =
    (frame : List ℕ) × (wire a ≡ Ok frame) × IsFrame layout frame (says a).0 (says a).1

-- values each written as a frame are written as the frames of their headers and payloads
pub written-frames : {A H V : Type 0} (layout : Layout H V) (wire : A → Wire) (says : A → H × V) (xs : List A)
    → All (IsWrittenAs layout wire says) xs → (bytes : List ℕ) × (wire_all wire xs ≡ Ok bytes)
    × AreFrames layout bytes (map says xs)
written-frames layout wire says [] each = ([], refl, refl)
written-frames layout wire says (x ∷ xs) each =
    let first = All-head (IsWrittenAs layout wire says) x xs each in
    let others = written-frames layout wire says xs (All-tail (IsWrittenAs layout wire says) x xs each) in
    (first.0 ++ others.0, rw (first.1, others.1) refl, (first.0, others.0, refl, first.2, others.2))

-- attributes each written as a frame are read back as their list
pub list-reads_back : {A K : Type 0} (kind_of : ℕ → K) (wire : A → Wire) (says : A → Attr K (List ℕ)) (xs : List A)
    → All (IsWrittenAs (attribute kind_of (λ bytes. Ok bytes)) wire says) xs
    → (bytes : List ℕ) × (wire_all wire xs ≡ Ok bytes) × (attributes_in kind_of bytes ≡ Ok (map says xs))
list-reads_back kind_of wire says xs each =
    let layout = attribute kind_of (λ (bytes : List ℕ). Ok bytes) in
    let all = written-frames layout wire says xs each in (
      all.0,
      all.1,
      frames-list layout (attribute-placed kind_of (λ (bytes : List ℕ). Ok bytes)) (omega arith) all.0
          (map says xs) all.2,
    )

-- an attribute of this type, which its number means, is written as a frame
pub attribute-written : {K : Type 0} (kind_of : ℕ → K) (len number : ℕ) (kind : K) (payload : List ℕ)
    → len ≡ 4 + length payload → len < 65536 → number < 65536 → kind_of number ≡ kind
    → (frame : List ℕ) × (attribute_wire len number (Ok payload) ≡ Ok frame)
    × IsFrame (attribute kind_of (λ bytes. Ok bytes)) frame (attr len kind payload).0 payload
attribute-written {K} kind_of len number kind payload is fits small named =
    let layout = attribute kind_of (λ (bytes : List ℕ). Ok bytes) in
    let n = 4 + length payload in
    let frame : IsFrame layout (attribute_bytes n number payload) (attr n (kind_of number) payload).0 payload =
    attribute_bytes-frame kind_of (λ (bytes : List ℕ). Ok bytes) number payload payload small (omega arith) refl in
    let typed : IsFrame layout (attribute_bytes n number payload) (attr n kind payload).0 payload =
    subst (λ (k : K). IsFrame layout (attribute_bytes n number payload) (attr n k payload).0 payload) named frame in
    let sized : IsFrame layout (attribute_bytes len number payload) (attr len kind payload).0 payload =
    subst (λ (m : ℕ). IsFrame layout (attribute_bytes m number payload) (attr m kind payload).0 payload)
    (sym is) typed in
    (attribute_bytes len number payload, refl, sized)

-- ---- flags

flag-is : (x p : ℕ) (flag : Bool) → nat_eq p 0 ≡ false → x ≡ bit_where flag p → not (nat_eq x 0) ≡ flag
flag-is x p true some e = rw (e, some) refl
flag-is x p false some e = rw e refl

-- the parts of a sum of a small number and two bits
number-part : (n : ℕ) (a b : Bool) → n < 16384 → (n + bit_where a 32768 + bit_where b 16384) % 16384 ≡ n
number-part n true true lt = omega arith
number-part n true false lt = omega arith
number-part n false true lt = omega arith
number-part n false false lt = omega arith

high-part : (n : ℕ) (a b : Bool) → n < 16384 → ((n + bit_where a 32768 + bit_where b 16384) / 32768 % 2) * 32768
    ≡ bit_where a 32768
high-part n true true lt = omega arith
high-part n true false lt = omega arith
high-part n false true lt = omega arith
high-part n false false lt = omega arith

low-part : (n : ℕ) (a b : Bool) → n < 16384 → ((n + bit_where a 32768 + bit_where b 16384) / 16384 % 2) * 16384
    ≡ bit_where b 16384
low-part n true true lt = omega arith
low-part n true false lt = omega arith
low-part n false true lt = omega arith
low-part n false false lt = omega arith

-- the parts of a field with a number of 14 bits
field-parts : (n : ℕ) (nested order : Bool) → n < 16384 → let field = field_of n nested order in
    (has field 32768 ≡ nested) × (has field 16384 ≡ order) × (bit_and field 16383 ≡ n)
field-parts n nested order lt =
    let sum : field_of n nested order ≡ n + bit_where nested 32768 + bit_where order 16384 =
    field_of-sum n nested order lt in
    let field : ℕ = n + bit_where nested 32768 + bit_where order 16384 in
    let low : bit_and field 16383 ≡ n = and_mask field 14 ∙ number-part n nested order lt in
    let high : has field 32768 ≡ nested = flag-is (bit_and field 32768) 32768 nested refl (and_pow field 15
    ∙ high-part n nested order lt) in
    let mid : has field 16384 ≡ order = flag-is (bit_and field 16384) 16384 order refl (and_pow field 14
    ∙ low-part n nested order lt) in
    subst (λ (m : ℕ). (has m 32768 ≡ nested) × (has m 16384 ≡ order) × (bit_and m 16383 ≡ n)) (sym sum) (high, mid, low)

-- a field with a number of 14 bits is read back
pub type_of-number_of : {T : Type 0} (value_of : ℕ → T) (type_number : T → ℕ)
    → ((n : ℕ) → n < 256 ^ 2 → type_number (value_of n) ≡ n) → (t : AttrType T) → type_number t.nla_type < 16384
    → KeepsField type_number t (type_of value_of (number_of type_number t))
type_of-number_of value_of type_number back t lt =
    let parts = field-parts (type_number t.nla_type) t.nla_nested t.nla_network_order lt in
    record {
      nested = parts.0;
      network_order = parts.1;
      number = ap (λ (m : ℕ). type_number (value_of m)) parts.2 ∙ back (type_number t.nla_type) (omega arith);
    }

-- a field whose type is the meaning of its number of 14 bits is read back as itself
pub type_of-named : {T : Type 0} (value_of : ℕ → T) (type_number : T → ℕ) (t : AttrType T)
    → type_number t.nla_type < 16384 → value_of (type_number t.nla_type) ≡ t.nla_type
    → type_of value_of (number_of type_number t) ≡ t
type_of-named value_of type_number t lt named =
    let parts = field-parts (type_number t.nla_type) t.nla_nested t.nla_network_order lt in
    rw (parts.0, parts.1, parts.2, named) refl

-- a flag's bit is a bit of the type field
bit_where-small : (flag : Bool) (bit : ℕ) → bit < 65536 → bit_where flag bit < 65536
bit_where-small true bit lt = lt
bit_where-small false bit lt = omega arith

pub number_of-small : {T : Type 0} (type_number : T → ℕ) (t : AttrType T) → type_number t.nla_type < 65536
    → number_of type_number t < 65536
number_of-small type_number t lt =
    let n = type_number t.nla_type in
    let nested = bit_where t.nla_nested 32768 in
    let order = bit_where t.nla_network_order 16384 in
    or_lt 16 (bit_or n nested) order (or_lt 16 n nested lt (bit_where-small t.nla_nested 32768 (omega arith)))
    (bit_where-small t.nla_network_order 16384 (omega arith))
