-- Attributes of an extended acknowledgement that are read back from their bytes.
use Rattle.std.proofs.Common.{◌≡◌, ℕ, ◌+◌, ◌%◌, ◌<◌, All, List, [], ◌∷◌, ◌++◌}
use Rattle.std.proofs.Common.{length, map, Result, Ok, refl, ap, ◌∙◌, arith, length-append}
use Rattle.std.proofs.lemmas.List.Elements.{All-weaker}
use Rattle.neli_wire.specs.declared.errors.DeError.{DeError}
use Rattle.neli_wire.specs.Reading.{◌>>=◌}
use Rattle.neli_wire.specs.Sizes.{align}
use Rattle.neli_wire.specs.Writing.{Wire}
use Rattle.neli_wire.specs.laws.Elements.{elements_by}
use Rattle.neli_wire.specs.laws.Lists.{both_written}
use Rattle.neli_wire.specs.laws.Writing.{own-length}
use Rattle.neli_consts.specs.NlmsgerrAttr.{nlmsgerr_attr_number, nlmsgerr_attr_of}
use Rattle.neli_consts.specs.declared.nlmsg.NlmsgerrAttr.{NlmsgerrAttr}
use Rattle.neli_attr.specs.AttrType.{AttrType}
use Rattle.neli_attr.specs.Attributes.{Attr, attribute}
use Rattle.neli_attr.specs.Nlattr.{nlattr_view, nlattr_wire}
use Rattle.neli_attr.specs.TypeField.{number_of, type_of}
use Rattle.neli_attr.specs.declared.nlattr.Nlattr.{Nlattr}
use Rattle.neli_attr.specs.laws.Nlattr.{nlattr_wire-length}
use Rattle.neli_attr.specs.laws.RoundTrips.{IsWrittenAs, attribute-written, list-reads_back}
use Rattle.neli_attr.specs.laws.RoundTrips.{number_of-small, type_of-named}
use Rattle.neli_reader.specs.Answers.{Attributes, attribute_of, ext_ack_in}
use Rattle.neli_reader.specs.Wires.{attributes_wire}
use Rattle.neli_kernel.specs.Delivered.{AreReadBack, IsPlainAttribute}

abbrev as_bytes : List ℕ → Wire
as_bytes b = Ok b

abbrev one_wire : Nlattr NlmsgerrAttr (List ℕ) → Wire
one_wire = nlattr_wire nlmsgerr_attr_number as_bytes

pub nothing-read_back : AreReadBack [] []
unfolding elements_by
nothing-read_back = record { written = refl; read = refl }

-- ---- plain ones

plain-written : (a : Nlattr NlmsgerrAttr (List ℕ)) → IsPlainAttribute a
    → IsWrittenAs (attribute (type_of nlmsgerr_attr_of) (λ bytes. Ok bytes)) one_wire nlattr_view a
plain-written a is =
    let small : nlmsgerr_attr_number a.nla_type.nla_type < 65536 = omega (arith, is.kind) in
    attribute-written (type_of nlmsgerr_attr_of) a.nla_len
    (number_of nlmsgerr_attr_number a.nla_type) a.nla_type a.nla_payload is.len is.fits
    (number_of-small nlmsgerr_attr_number a.nla_type small)
    (type_of-named nlmsgerr_attr_of nlmsgerr_attr_number a.nla_type is.kind is.named)

said-again : (attrs : Attributes) → map attribute_of (map nlattr_view attrs) ≡ attrs
said-again [] = refl
said-again (a ∷ attrs) = ap (λ (more : Attributes). a ∷ more) (said-again attrs)

pub plain-read_back : (attrs : Attributes) → All IsPlainAttribute attrs → (text : List ℕ) × AreReadBack attrs text
plain-read_back attrs are =
    let back = list-reads_back (type_of nlmsgerr_attr_of) one_wire nlattr_view attrs
    (All-weaker IsPlainAttribute (IsWrittenAs (attribute (type_of nlmsgerr_attr_of)
    (λ bytes. Ok bytes)) one_wire nlattr_view) plain-written attrs are) in
    let read : ext_ack_in back.0 ≡ Ok attrs =
    ap (λ (r : Result (List (Attr (AttrType NlmsgerrAttr) (List ℕ))) DeError). r >>= λ list. Ok
    (map attribute_of list)) back.2
    ∙ ap (λ (list : Attributes). Ok list) (said-again attrs) in
    (back.0, record { written = back.1; read = read })

-- ---- their bytes, which are whole words

one-length : (a : Nlattr NlmsgerrAttr (List ℕ)) (bytes : List ℕ) → one_wire a ≡ Ok bytes
    → length bytes ≡ align (4 + length a.nla_payload)
one-length = nlattr_wire-length nlmsgerr_attr_number as_bytes length (λ p bytes e. own-length p bytes e)

pub whole-words : (attrs : Attributes) (text : List ℕ) → attributes_wire attrs ≡ Ok text → length text % 4 ≡ 0
whole-words [] text is = let nothing : [] ≡ text = cc in ap (λ (s : List ℕ). length s % 4) (nothing_is text nothing)
  where
    nothing_is : (text : List ℕ) → [] ≡ text → text ≡ []
    nothing_is text e = cc
whole-words (a ∷ attrs) text is =
    let parts = both_written (one_wire a) (attributes_wire attrs) text is in
    let long : length text ≡ length (parts.0 ++ parts.1) = ap length parts.4 in
    omega (arith, long, length-append parts.0 parts.1, one-length a parts.0 parts.2, whole-words attrs parts.1 parts.3)
