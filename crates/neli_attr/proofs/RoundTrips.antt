-- Attributes that are built or nested, written and read again.
use Rattle.std.proofs.Common.{◌≡◌, ℕ, ◌+◌, ◌<◌, ◌≤◌, Bool, true, false, cond, ltb, List, [], ◌∷◌}
use Rattle.std.proofs.Common.{◌++◌, length, Option, Some, None, Ok, Err, refl, ap, subst, arith, length-append}
use Rattle.std.specs.Prelude.{codes}
use Rattle.std.proofs.lemmas.Bool.{ltb-false}
use Rattle.byteorder.specs.Endian.{little_bytes}
use Rattle.neli_wire.specs.declared.errors.SerError.TheVariants.{Msg}
use Rattle.neli_wire.specs.Frames.{frame_at, IsFrame}
use Rattle.neli_wire.specs.laws.Elements.{elements}
use Rattle.neli_wire.specs.laws.FrameLists.{frames-list, frames-more, list-frames}
use Rattle.neli_wire.specs.laws.Numbers.{count-unsigned}
use Rattle.neli_wire.specs.Writing.{Wire, zeros_for}
use Rattle.neli_attr.specs.Builders.{Outcome, require_field, ◌>>>◌, payload_in}
use Rattle.neli_attr.specs.Builders.Fault.{Invalid}
use Rattle.neli_attr.specs.Attributes.{Attr, attr, attribute, attribute_payload, attribute_wire, nested_payload}
use Rattle.neli_attr.specs.laws.Attributes.{attribute-placed}
use Rattle.neli_attr.specs.laws.RoundTrips.{attribute_bytes, attribute_bytes-frame}
use Rattle.neli_attr.specs.declared.nlattr.Nlattr.{Nlattr}
use Rattle.neli_attr.specs.declared.nlattr.NlattrBuilder.{NlattrBuilder}
use Rattle.neli_attr.specs.declared.rtattr.Rtattr.{Rtattr}
use Rattle.neli_attr.specs.declared.rtattr.RtattrBuilder.{RtattrBuilder}
use Rattle.neli_attr.specs.Nlattr.{built_nlattr, with_length as nlattr_with_length}
use Rattle.neli_attr.specs.Rtattr.{built_rtattr, with_length as rtattr_with_length}

-- ---- builders

abbrev made : {A : Type 0} → A → Outcome A
made x = Ok x

made_is : {A : Type 0} (x y : A) → made x ≡ made y → x ≡ y
made_is x y e = cc

given_ok : {A B : Type 0} (name : List ℕ) (o : Option A) (next : A → Outcome B) (y : B)
    → require_field name o next ≡ Ok y → (x : A) × (next x ≡ Ok y)
given_ok name (Some x) next y e = (x, e)
given_ok name None next y e = absurd cc

bind_made : {A B : Type 0} (o : Outcome A) (next : A → Outcome B) (y : B) → (o >>> next) ≡ Ok y
    → (x : A) × (o ≡ Ok x) × (next x ≡ Ok y)
bind_made (Ok x) next y e = (x, refl, e)
bind_made (Err fault) next y e = absurd cc

-- a payload of a value that is built leaves room for its header
payload_in-fits : (w : Wire) (bytes : List ℕ) → payload_in 4 w ≡ Ok bytes → 4 + length bytes < 65536
payload_in-fits (Err e) bytes h = absurd cc
payload_in-fits (Ok text) bytes h = by (ltb 65535 (4 + length text)) refl h
  where
    by : (b : Bool) → ltb 65535 (4 + length text) ≡ b → cond b (Err (Invalid (codes "Length does not fit its field")))
        (made text) ≡ Ok bytes → 4 + length bytes < 65536
    by true is e = absurd cc
    by false is e = omega (arith, ltb-false _ _ is, ap length (made_is text bytes e))

pub built_nlattr-length : {T P : Type 0} (wire : P → Wire) (b : NlattrBuilder T P) (a : Nlattr T (List ℕ))
    → built_nlattr wire b ≡ Ok a → (a.nla_len ≡ 4 + length a.nla_payload) × (4 + length a.nla_payload < 65536)
built_nlattr-length {T} wire b a e =
    let one = given_ok _ b.nla_type _ a e in
    let two = given_ok _ b.nla_payload _ a one.1 in
    let three = bind_made (payload_in 4 (wire two.0)) _ a two.1 in
    let P : Nlattr T (List ℕ) → Type 0 = λ a. (a.nla_len ≡ 4 + length a.nla_payload)
    × (4 + length a.nla_payload < 65536) in
    subst P (made_is (nlattr_with_length one.0 three.0) a three.2) (refl, payload_in-fits (wire two.0) three.0 three.1)

pub built_rtattr-length : {T P : Type 0} (wire : P → Wire) (b : RtattrBuilder T P) (a : Rtattr T (List ℕ))
    → built_rtattr wire b ≡ Ok a → (a.rta_len ≡ 4 + length a.rta_payload) × (4 + length a.rta_payload < 65536)
built_rtattr-length {T} wire b a e =
    let one = given_ok _ b.rta_type _ a e in
    let two = given_ok _ b.rta_payload _ a one.1 in
    let three = bind_made (payload_in 4 (wire two.0)) _ a two.1 in
    let P : Rtattr T (List ℕ) → Type 0 = λ a. (a.rta_len ≡ 4 + length a.rta_payload)
    × (4 + length a.rta_payload < 65536) in
    subst P (made_is (rtattr_with_length one.0 three.0) a three.2) (refl, payload_in-fits (wire two.0) three.0 three.1)

-- ---- nesting

-- a payload of a written attribute is unchanged, and leaves room for the header
attribute_payload-fits : (text payload : List ℕ) → attribute_payload (Ok text) ≡ Ok payload
    → (text ≡ payload) × (4 + length text < 65536)
attribute_payload-fits text payload h = by (ltb 65535 (4 + length text)) refl h
  where
    written : List ℕ → Wire
    written bytes = Ok bytes

    by : (b : Bool) → ltb 65535 (4 + length text) ≡ b → cond b (Err (Msg (codes "Length does not fit its field")))
        (written text) ≡ Ok payload → (text ≡ payload) × (4 + length text < 65536)
    by true is e = absurd cc
    by false is e = (cc, omega (arith, ltb-false _ _ is))

-- a text is longer than its payload
attribute_bytes-longer : (len kind : ℕ) (bytes : List ℕ) → length bytes ≤ length (attribute_bytes len kind bytes)
attribute_bytes-longer len kind bytes =
    let head : List ℕ = little_bytes 2 len ++ little_bytes 2 kind in
    omega (
      arith,
      length-append (head ++ bytes) (zeros_for (length (head ++ bytes))),
      length-append head bytes,
      length-append (little_bytes 2 len) (little_bytes 2 kind),
      count-unsigned 2 len,
      count-unsigned 2 kind,
    )

-- an attribute appended to a list of attributes is the last in it
pub nested-last : {K : Type 0} (kind_of : ℕ → K) (kind : ℕ) (old bytes payload : List ℕ) (len : ℕ)
    (attrs : List (Attr K (List ℕ))) → len ≡ 4 + length bytes → kind < 65536
    → nested_payload old (attribute_wire len kind (Ok bytes)) ≡ Ok payload
    → elements (frame_at (attribute kind_of (λ bytes. Ok bytes))) old ≡ Ok attrs
    → elements (frame_at (attribute kind_of (λ bytes. Ok bytes))) payload
    ≡ Ok (attrs ++ attr len (kind_of kind) bytes ∷ [])
nested-last {K} kind_of kind old bytes payload len attrs is small nests lists =
    let layout = attribute kind_of (λ (bytes : List ℕ). Ok bytes) in
    let placed = attribute-placed kind_of (λ (bytes : List ℕ). Ok bytes) in
    let text : List ℕ = attribute_bytes len kind bytes in
    let fits = attribute_payload-fits (old ++ text) payload nests in
    let room : 4 + length bytes < 65536 = omega (
      arith,
      fits.1,
      length-append old text,
      attribute_bytes-longer len kind bytes,
    ) in
    let frame : IsFrame layout text (record { len = len; kind = kind_of kind }) bytes =
    rw is (attribute_bytes-frame kind_of (λ bytes. Ok bytes) kind bytes bytes small room refl) in
    let before = list-frames layout placed (omega arith) old attrs lists in
    let after = frames-list layout placed (omega arith) (old ++ text) (attrs ++ attr len (kind_of kind) bytes ∷ [])
    (frames-more layout placed (omega arith) old text attrs (attr len (kind_of kind) bytes) before frame) in
    subst (λ (s : List ℕ). elements (frame_at layout) s ≡ Ok (attrs ++ attr len (kind_of kind) bytes ∷ [])) fits.0 after
