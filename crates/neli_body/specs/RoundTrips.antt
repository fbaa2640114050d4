-- What is written of a body is read again as its equal.
use Rattle.std.specs.Prelude.{◌≡◌, ℕ, ◌+◌, List, ◌++◌, length, Result, Ok}
use Rattle.std.specs.List.{All}
use Rattle.neli_attr.specs.declared.rtattr.Rtattr.{Rtattr}
use Rattle.neli_wire.specs.declared.errors.DeError.{DeError}
use Rattle.neli_wire.specs.Numbers.{FitsBytes}
use Rattle.neli_wire.specs.Writing.{Wire}
use Rattle.neli_body.specs.Attributes.{Attrs, attrs_of, attrs_view, attrs_wire}
use Rattle.neli_body.specs.Bodies.{body_of, body_wire}
use Rattle.neli_body.specs.Headers.{IsNamed}

-- a header and what follows it have bytes, which are read as that header, and the bytes after it as they are read alone
abbrev pub ReadsBack : {H V : Type 0} → ℕ → (H → List ℕ) → (List ℕ → H) → (List ℕ → Result V DeError) → H → Wire
    → Type 0
ReadsBack {V = V} n bytes_of header_of rest_of header rest =
    (bytes : List ℕ) (value : V) → rest ≡ Ok bytes → rest_of bytes ≡ Ok value
    → (body_wire (bytes_of header) rest ≡ Ok (bytes_of header ++ bytes))
    × (body_of n header_of rest_of (bytes_of header ++ bytes) ≡ Ok (header, value))

-- ---- routing attributes

-- the length is that of the header and the payload, and the type is read from its number
pub record IsPlainAttr {T : Type 0} (number_of : T → ℕ) (value_of : ℕ → T) (a : Rtattr T (List ℕ)) : Type 0 where
  pub len : a.rta_len ≡ 4 + length a.rta_payload
  pub fits : FitsBytes 2 a.rta_len
  pub kind : IsNamed 2 number_of value_of a.rta_type

-- each attribute of a list is plain
abbrev pub ArePlainAttrs : {T : Type 0} → (T → ℕ) → (ℕ → T) → Attrs T → Type 0
ArePlainAttrs number_of value_of = All (IsPlainAttr number_of value_of)

-- the attributes have bytes, which are read as the same attributes
abbrev pub AreReadBack : {T : Type 0} → (T → ℕ) → (ℕ → T) → Attrs T → Type 0
AreReadBack number_of value_of attrs =
    (bytes : List ℕ) × (attrs_wire number_of attrs ≡ Ok bytes) × (attrs_of value_of bytes ≡ Ok (attrs_view attrs))

-- a header and attributes have bytes, which are read as that header and the same attributes
abbrev pub ReadsBackWhole : {H T : Type 0} → ℕ → (H → List ℕ) → (List ℕ → H) → (T → ℕ) → (ℕ → T) → H → Attrs T → Type 0
ReadsBackWhole n bytes_of header_of number_of value_of header attrs =
    (bytes : List ℕ) × (body_wire (bytes_of header) (attrs_wire number_of attrs) ≡ Ok bytes)
    × (body_of n header_of (attrs_of value_of) bytes ≡ Ok (header, attrs_view attrs))
