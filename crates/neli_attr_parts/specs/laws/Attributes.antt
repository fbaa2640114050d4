-- Laws of attributes.
use Rattle.std.proofs.Common.{◌≡◌, ◌≢◌, ℕ, ◌+◌, ◌-◌, ◌≤◌, Bool, true, false, cond, List}
use Rattle.std.proofs.Common.{[], ◌++◌, length, Result, Ok, Err, refl, ap, ◌∙◌, arith, length-append}
use Rattle.std.specs.Prelude.{codes, nat_lt}
use Rattle.std.proofs.lemmas.List.{length-replicate}
use Rattle.byteorder.specs.Endian.{little_bytes, little_number}
use Rattle.neli_wire.specs.declared.errors.DeError.{DeError}
use Rattle.neli_wire.specs.declared.errors.DeError.TheVariants.{Memory}
use Rattle.neli_wire.specs.declared.errors.SerError.{SerError}
use Rattle.neli_wire.specs.declared.errors.SerError.TheVariants as ser
use Rattle.neli_wire.specs.Sizes.{align, EndsInZeros}
use Rattle.neli_wire.specs.laws.Sizes.{padded-zeros}
use Rattle.neli_wire.specs.Reading.{IsLocal, number_at, number_as}
use Rattle.neli_wire.specs.Frames.{frame_at, frame_takes_memory, number_in}
use Rattle.neli_wire.specs.laws.Frames.{IsWide, IsPlaced, number_at-wide_by, value_at-wide_by}
use Rattle.neli_wire.specs.laws.Frames.{then-wide, done-wide, header_then-is, header_then_takes_memory-is}
use Rattle.neli_wire.specs.laws.Frames.{frame_at-local, frame_at-no_memory, number_in-take}
use Rattle.neli_wire.specs.laws.Numbers.{count-unsigned}
use Rattle.neli_wire.specs.laws.Lists.{both_written, both-no_memory}
use Rattle.neli_wire.specs.Writing.{RefusesWrite, TakesRoom, Wire, ◌+++◌, append_wire, pad_wire, zeros_for}
use Rattle.neli_attr_parts.specs.Attributes.{Head, attribute, attribute_payload, attribute_wire, nested_payload}
use Rattle.neli_attr_parts.specs.laws.Steps.{attribute_at, attribute_takes_memory, head_at}

-- ---- reading

abbrev head : {K : Type 0} → ℕ → K → Head K
head len kind = record { len = len; kind = kind }

head_at-wide : {K : Type 0} (kind_of : ℕ → K) → IsWide (head_at kind_of) 4
    (λ s. head (number_in 2 0 s) (kind_of (number_in 2 2 s)))
unfolding head_at
head_at-wide {K} kind_of =
    let kinds = λ (len : ℕ). then-wide (number_as kind_of) (λ kind s. Ok (head len kind, s)) 2 0
    (λ s. kind_of (little_number 2 s)) (λ kind _. head len kind) (value_at-wide_by 2 kind_of)
    (λ kind. done-wide (head len kind)) in
    then-wide (number_at 2) _ 2 2 (little_number 2) _ (number_at-wide_by 2) kinds

module _ {K V : Type 0} (kind_of : ℕ → K) (payload_of : List ℕ → Result V DeError) where
  -- reading field by field is reading by places
  pub attribute_at-is : (s : List ℕ) → attribute_at kind_of payload_of s ≡ frame_at (attribute kind_of payload_of) s
  unfolding attribute_at
  attribute_at-is = header_then-is (attribute kind_of payload_of) (head_at kind_of) (head_at-wide kind_of)

  pub attribute_takes_memory-is : (takes : List ℕ → Type 0) (s : List ℕ) → attribute_takes_memory kind_of takes s
      → frame_takes_memory (attribute kind_of payload_of) (λ _. takes) s
  unfolding attribute_takes_memory
  attribute_takes_memory-is takes = header_then_takes_memory-is (attribute kind_of payload_of) (head_at kind_of)
      (λ _. takes) (head_at-wide kind_of)

  pub attribute-placed : IsPlaced (attribute kind_of payload_of)
  attribute-placed = record {
    own = λ s le. rw (number_in-take 2 0 4 s (omega arith) le, number_in-take 2 2 4 s (omega arith) le) refl;
  }

  pub attribute-local : IsLocal (frame_at (attribute kind_of payload_of))
  attribute-local = frame_at-local (attribute kind_of payload_of) attribute-placed

  pub attribute-no_memory : ((s : List ℕ) → payload_of s ≢ Err Memory) → (s : List ℕ)
      → frame_at (attribute kind_of payload_of) s ≢ Err Memory
  attribute-no_memory none = frame_at-no_memory (attribute kind_of payload_of) (λ _. none)

-- ---- writing

align-le : (n : ℕ) → n ≤ align n
align-le n = omega arith

padded_written : (w : Wire) (bytes : List ℕ) → pad_wire w ≡ Ok bytes
    → (x : List ℕ) × (w ≡ Ok x) × (length bytes ≡ align (length x))
padded_written (Ok x) bytes e =
    let same : x ++ zeros_for (length x) ≡ bytes = cc in (
      x,
      refl,
      omega (
        arith,
        ap length same,
        length-append x (zeros_for (length x)),
        length-replicate {A = ℕ} (align (length x) - length x) 0,
        align-le (length x),
      ),
    )
padded_written (Err d) bytes e = absurd cc

-- the header and the payload take four bytes and the payload's own
unpadded-length : (len kind n : ℕ) (payload : Wire) → ((bytes : List ℕ) → payload ≡ Ok bytes → length bytes ≡ n)
    → (bytes : List ℕ) → Ok (little_bytes 2 len ++ little_bytes 2 kind) +++ payload ≡ Ok bytes → length bytes ≡ 4 + n
unpadded-length len kind n payload payloads bytes e =
    let both : List ℕ = little_bytes 2 len ++ little_bytes 2 kind in
    let q = both_written (Ok both) payload bytes e in
    let same : both ≡ q.0 = cc (q.2) in
    let four : length both ≡ 4 = omega (
      arith,
      length-append (little_bytes 2 len) (little_bytes 2 kind),
      count-unsigned 2 len,
      count-unsigned 2 kind,
    ) in
    omega (arith, ap length q.4, length-append q.0 q.1, ap length same, four, payloads q.1 q.3)

-- an attribute takes four bytes and its payload's own, rounded up to four
pub attribute_wire-length : (len kind n : ℕ) (payload : Wire)
    → ((bytes : List ℕ) → payload ≡ Ok bytes → length bytes ≡ n) → (bytes : List ℕ)
    → attribute_wire len kind payload ≡ Ok bytes → length bytes ≡ align (4 + n)
attribute_wire-length len kind n payload payloads bytes e =
    let p = padded_written (Ok (little_bytes 2 len ++ little_bytes 2 kind) +++ payload) bytes e in
    p.2 ∙ ap align (unpadded-length len kind n payload payloads p.0 p.1)

-- the padding after these is zeros
pub attribute_wire-zeros : (len kind n : ℕ) (payload : Wire)
    → ((bytes : List ℕ) → payload ≡ Ok bytes → length bytes ≡ n) → (bytes : List ℕ)
    → attribute_wire len kind payload ≡ Ok bytes → EndsInZeros (4 + n) bytes
attribute_wire-zeros len kind n payload payloads =
    padded-zeros (Ok (little_bytes 2 len ++ little_bytes 2 kind) +++ payload) (4 + n)
    (unpadded-length len kind n payload payloads)

padded-no_memory : (w : Wire) → w ≢ Err ser.Memory → pad_wire w ≢ Err ser.Memory
padded-no_memory (Ok x) h e = cc
padded-no_memory (Err d) h e = h e

pub attribute_wire-no_memory : (len kind : ℕ) (payload : Wire) → payload ≢ Err ser.Memory
    → attribute_wire len kind payload ≢ Err ser.Memory
attribute_wire-no_memory len kind payload payloads =
    padded-no_memory (Ok (little_bytes 2 len ++ little_bytes 2 kind) +++ payload)
    (both-no_memory (Ok (little_bytes 2 len ++ little_bytes 2 kind)) payload (λ e. cc) payloads)

-- appending to nothing gives the whole
pub after_nothing : (w : Wire) (bytes : List ℕ) → append_wire [] w ≡ Ok bytes → w ≡ Ok bytes
after_nothing (Ok x) bytes e = e
after_nothing (Err d) bytes e = absurd cc

-- ---- refusals

abbrev written_as : List ℕ → Wire
written_as bytes = Ok bytes

-- a payload that takes memory takes it where its length is checked
room_payload : (w : Wire) → TakesRoom w → TakesRoom (attribute_payload w)
room_payload (Ok bytes) h = by (nat_lt 65535 (4 + length bytes))
  where
    by : (b : Bool) → TakesRoom (cond b (Err (ser.Msg (codes "Length does not fit its field"))) (written_as bytes))
    by true = tt
    by false = h
room_payload (Err d) h = tt

-- a refusal to write a payload is that of the attribute's payload
pub refused_payload : (w : Wire) (e : SerError) → RefusesWrite w e → RefusesWrite (attribute_payload w) e
refused_payload w (ser.Msg m) h = rw h refl
refused_payload w (ser.Io k) h = rw h refl
refused_payload w (ser.Utf8 u) h = rw h refl
refused_payload w ser.Memory h = room_payload w h

room_append : (old : List ℕ) (w : Wire) → TakesRoom w → TakesRoom (append_wire old w)
room_append old (Ok bytes) h = omega (arith, length-append old bytes)
room_append old (Err d) h = tt

-- a refusal to write a nested attribute is that of the payload with it
pub refused_nested : (old : List ℕ) (w : Wire) (e : SerError) → RefusesWrite w e → RefusesWrite (nested_payload old w) e
refused_nested old w e h = refused_payload (append_wire old w) e (appended w e h)
  where
    appended : (w : Wire) (e : SerError) → RefusesWrite w e → RefusesWrite (append_wire old w) e
    appended w (ser.Msg m) h = rw h refl
    appended w (ser.Io k) h = rw h refl
    appended w (ser.Utf8 u) h = rw h refl
    appended w ser.Memory h = room_append old w h
