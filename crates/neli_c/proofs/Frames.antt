-- Frames at the front of a walk's rest.
use Rattle.std.proofs.Common.{◌≡◌, ℕ, ◌+◌, ◌-◌, ◌≤◌, List, length, take, drop, Ok, sym, ap, subst, ◌∙◌}
use Rattle.std.proofs.Common.{arith, ltb}
use Rattle.std.proofs.Common.{length-drop}
use Rattle.std.proofs.lemmas.Bool.{ltb-false}
use Rattle.std.proofs.lemmas.List.{length-take-le, drop-take, drop-drop, take-take}
use Rattle.neli_wire.specs.Bytes.{Reading, short}
use Rattle.neli_wire.specs.declared.errors.DeError.TheVariants.{InvalidInput}
use Rattle.neli_wire.specs.Frames.{Layout, frame_at, frame_after}
use Rattle.neli_wire.specs.Sizes.{align}
use Rattle.neli_wire.specs.laws.Reading.{guard_ok, ok_is}
use Rattle.neli_attr.specs.Attributes.{Head}
use Rattle.neli_reader.specs.Headers.{Header, header_in}
use Rattle.neli_wire.specs.Frames.{number_in}
use Rattle.neli_c_parts.specs.declared.message.NeliWalk.{NeliWalk}
use Rattle.neli_c_parts.specs.declared.message.NeliMessage.{NeliMessage}
use Rattle.neli_c_parts.specs.declared.message.NeliAttribute.{NeliAttribute}
use Rattle.neli_c_parts.specs.Walks.{GivesAttribute, GivesMessage, IsInParts, attribute_layout, bytes_from}
use Rattle.neli_c_parts.specs.Walks.{head_view}
use Rattle.neli_c_parts.specs.Walks.{header_view, message_layout}

align-le : (n : ℕ) → n ≤ align n
align-le n = omega arith

module _ {H : Type 0} (size : ℕ) (header_of : List ℕ → H) (length_of : H → ℕ) where
  abbrev layout : Layout H (List ℕ)
  layout = record { size = size; header_of = header_of; length_of = length_of; payload_of = λ _ bytes. Ok bytes }

  abbrev read : (H × List ℕ) × List ℕ → Reading (H × List ℕ)
  read x = Ok x

  -- the places of a frame's parts
  pub frame-parts : (s r v : List ℕ) (h : H) → frame_at layout s ≡ Ok ((h, v), r)
      → (v ≡ take (length_of h - size) (drop size s)) × (r ≡ drop (align (length_of h)) s) × (size ≤ length_of h)
      × (align (length_of h) ≤ length s)
  unfolding frame_at
  frame-parts s r v h e =
      let n = length_of (header_of s) in
      let a = guard_ok (ltb (length s) size) short (frame_after layout (header_of s) s) ((h, v), r) e in
      let b = guard_ok (ltb n size) (InvalidInput n) _ ((h, v), r) a.1 in
      let c = guard_ok (ltb (length s) n) (InvalidInput (n - size)) _ ((h, v), r) b.1 in
      let d = guard_ok (ltb (length s) (align n)) short
      (read ((header_of s, take (n - size) (drop size s)), drop (align n) s)) ((h, v), r) c.1 in
      let same = ok_is ((header_of s, take (n - size) (drop size s)), drop (align n) s) ((h, v), r) d.1 in
      let hs : header_of s ≡ h = ap (λ (p : (H × List ℕ) × List ℕ). p.0.0) same in
      let vs : take (n - size) (drop size s) ≡ v = ap (λ (p : (H × List ℕ) × List ℕ). p.0.1) same in
      let rs : drop (align n) s ≡ r = ap (λ (p : (H × List ℕ) × List ℕ). p.1) same in
      subst (λ (x : H). (v ≡ take (length_of x - size) (drop size s)) × (r ≡ drop (align (length_of x)) s)
      × (size ≤ length_of x) × (align (length_of x) ≤ length s)) hs
      (sym vs, sym rs, ltb-false _ _ b.0, ltb-false _ _ d.0)

  -- the frame at the front of the bytes from p to e, with its payload as bytes of the whole
  pub frame-placed : (bytes : List ℕ) (p e : ℕ) (s r v : List ℕ) (h : H) → p ≤ e → e ≤ length bytes
      → s ≡ bytes_from p (e - p) bytes → frame_at layout s ≡ Ok ((h, v), r)
      → (frame_at layout (bytes_from p (e - p) bytes) ≡ Ok (
        (h, bytes_from (p + size) (length v) bytes),
        drop (align (length_of h)) (bytes_from p (e - p) bytes),
      ))
      × (length v ≡ length_of h - size) × (p + size + length v ≤ p + align (length_of h))
      × (p + align (length_of h) ≤ e)
  frame-placed bytes p e s r v h le within is eq =
      let parts = frame-parts s r v h eq in
      let n = length_of h in
      let m = e - p - size in
      let body = drop (p + size) bytes in
      let more : n ≤ align n = align-le n in
      let room : length (drop p bytes) ≡ length bytes - p = length-drop p bytes in
      let long : length s ≡ e - p = ap length is ∙ length-take-le (e - p) (drop p bytes) (omega (arith, room)) in
      let after : length (drop size s) ≡ length s - size = length-drop size s in
      let len-v : length v ≡ n - size = ap length parts.0
      ∙ length-take-le (n - size) (drop size s) (omega (arith, after, parts.2, parts.3, more)) in
      let count : e - p ≡ size + m = omega (arith, parts.2, parts.3, long, more) in
      let at : drop size s ≡ take m body = ap (λ (x : List ℕ). drop size x) is
      ∙ ap (λ (k : ℕ). drop size (take k (drop p bytes))) count ∙ drop-take size m (drop p bytes)
      ∙ ap (λ (x : List ℕ). take m x) (drop-drop size p bytes) in
      let short-of : n - size ≤ m = omega (arith, parts.3, long, more) in
      let v-is : v ≡ take (length v) body = parts.0 ∙ ap (λ (x : List ℕ). take (n - size) x) at
      ∙ take-take (n - size) m body short-of ∙ ap (λ (k : ℕ). take k body) (sym len-v) in
      let first : frame_at layout (bytes_from p (e - p) bytes) ≡ Ok ((h, v), r) =
      subst (λ (x : List ℕ). frame_at layout x ≡ Ok ((h, v), r)) is eq in
      let rest : r ≡ drop (align n) (bytes_from p (e - p) bytes)
      = parts.1 ∙ ap (λ (x : List ℕ). drop (align n) x) is in (
        first ∙ ap (λ (x : List ℕ). read ((h, x), r)) v-is
            ∙ ap (λ (x : List ℕ). read ((h, bytes_from (p + size) (length v) bytes), x)) rest,
        len-v,
        omega (arith, len-v, parts.2, more),
        omega (arith, le, parts.3, long),
      )

-- a message lent from the rest
pub message-given : (bytes : List ℕ) (w new : NeliWalk) (s at r v : List ℕ) (h : Header ℕ) (m : NeliMessage)
    → (w.place ≤ w.end) × (w.end ≤ length bytes) × (s ≡ bytes_from w.place (w.end - w.place) bytes) → at ≡ s
    → frame_at message_layout at ≡ Ok ((h, v), r)
    → header_view m ≡ h → m.payload ≡ w.place + 16 → m.payload_length ≡ length v
    → new ≡ record w { place = w.place + align m.length } → GivesMessage bytes w new m
message-given bytes w new s at r v h m places here eq head begins size moved =
    let g = frame-placed 16 (header_in (λ n. n)) (λ (x : Header ℕ). x.len) bytes w.place w.end at r v h places.0
    places.1 (here ∙ places.2) eq in
    let len : h.len ≡ m.length = ap (λ (x : Header ℕ). x.len) (sym head) in
    let to : new.place ≡ w.place + align m.length = ap (λ (x : NeliWalk). x.place) moved in
    let fit : w.place + align m.length ≤ w.end = subst (λ (n : ℕ). w.place + align n ≤ w.end) len g.3 in
    let ends : w.place + 16 + length v ≤ w.place + align m.length =
    subst (λ (n : ℕ). w.place + 16 + length v ≤ w.place + align n) len g.2 in (
      rw (begins, size, head, sym len) g.0,
      begins,
      size ∙ g.1 ∙ ap (λ (n : ℕ). n - 16) len,
      omega (arith, begins, size, to, ends),
      moved,
      omega (arith, to, fit),
    )

abbrev head_of : ℕ → ℕ → Head ℕ
head_of n k = record { len = n; kind = k }

-- an attribute lent from the rest
pub attribute-given : (bytes : List ℕ) (w new : NeliWalk) (s at r v : List ℕ) (h : Head ℕ) (a : NeliAttribute)
    → (w.place ≤ w.end) × (w.end ≤ length bytes) × (s ≡ bytes_from w.place (w.end - w.place) bytes) → at ≡ s
    → frame_at attribute_layout at ≡ Ok ((h, v), r)
    → a.length ≡ h.len → a.field ≡ h.kind → IsInParts a → a.payload ≡ w.place + 4 → a.payload_length ≡ length v
    → new ≡ record w { place = w.place + align a.length } → GivesAttribute bytes w new a
attribute-given bytes w new s at r v h a places here eq long field parts begins size moved =
    let g = frame-placed 4 (λ (b : List ℕ). record { len = number_in 2 0 b; kind = number_in 2 2 b })
    (λ (x : Head ℕ). x.len) bytes w.place w.end at r v h places.0 places.1 (here ∙ places.2) eq in
    let len : h.len ≡ a.length = sym long in
    let head : head_view a ≡ h = ap (λ (n : ℕ). head_of n a.field) long ∙ ap (λ (k : ℕ). head_of h.len k) field in
    let to : new.place ≡ w.place + align a.length = ap (λ (x : NeliWalk). x.place) moved in
    let fit : w.place + align a.length ≤ w.end = subst (λ (n : ℕ). w.place + align n ≤ w.end) len g.3 in
    let ends : w.place + 4 + length v ≤ w.place + align a.length =
    subst (λ (n : ℕ). w.place + 4 + length v ≤ w.place + align n) len g.2 in (
      rw (begins, size, head, sym len) g.0,
      parts,
      begins,
      size ∙ g.1 ∙ ap (λ (n : ℕ). n - 4) len,
      omega (arith, begins, size, to, ends),
      moved,
      omega (arith, to, fit),
    )
