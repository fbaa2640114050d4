-- Laws of bodies and of routing attributes that are written and read again.
use Rattle.std.proofs.Common.{◌≡◌, ℕ, List, ◌++◌, length, Ok}
use Rattle.std.proofs.lemmas.List.Elements.{All-weaker}
use Rattle.neli_attr.specs.declared.rtattr.Rtattr.{Rtattr}
use Rattle.neli_attr.specs.Attributes.{attribute}
use Rattle.neli_attr.specs.Rtattr.{rtattr_view, rtattr_wire}
use Rattle.neli_attr.specs.laws.RoundTrips.{IsWrittenAs, attribute-written, list-reads_back}
use Rattle.neli_body.specs.Attributes.{Attrs, attrs_of, attrs_view, attrs_wire}
use Rattle.neli_body.specs.RoundTrips.{ArePlainAttrs, AreReadBack, IsPlainAttr, ReadsBackWhole}
use Rattle.neli_body.specs.laws.Bodies.{reads_back}

module _ {T : Type 0} (number_of : T → ℕ) (value_of : ℕ → T) where
  -- a plain attribute is written as a frame of its header and payload
  plain-written : (a : Rtattr T (List ℕ)) → IsPlainAttr number_of value_of a
      → IsWrittenAs (attribute value_of (λ bytes. Ok bytes)) (rtattr_wire number_of (λ bytes. Ok bytes)) rtattr_view a
  plain-written a is =
      attribute-written value_of a.rta_len (number_of a.rta_type) a.rta_type a.rta_payload is.len is.fits is.kind.fits
      is.kind.named

  -- plain attributes are read back
  pub plain-reads_back : (attrs : Attrs T) → ArePlainAttrs number_of value_of attrs
      → AreReadBack number_of value_of attrs
  plain-reads_back attrs are =
      list-reads_back value_of (rtattr_wire number_of (λ bytes. Ok bytes)) rtattr_view attrs
      (All-weaker (IsPlainAttr number_of value_of)
      (IsWrittenAs (attribute value_of (λ bytes. Ok bytes))
      (rtattr_wire number_of (λ bytes. Ok bytes)) rtattr_view) plain-written attrs are)

  -- with a header that is read back they make a body that is read back
  pub whole-reads_back : {H : Type 0} (n : ℕ) (bytes_of : H → List ℕ) (header_of : List ℕ → H) (h : H) (attrs : Attrs T)
      → length (bytes_of h) ≡ n → header_of (bytes_of h) ≡ h → ArePlainAttrs number_of value_of attrs
      → ReadsBackWhole n bytes_of header_of number_of value_of h attrs
  whole-reads_back n bytes_of header_of h attrs size back are =
      let list = plain-reads_back attrs are in
      let both = reads_back n header_of (attrs_of value_of) bytes_of h (attrs_wire number_of attrs) size back list.0
      (attrs_view attrs) list.1 list.2 in
      (bytes_of h ++ list.0, both.0, both.1)
