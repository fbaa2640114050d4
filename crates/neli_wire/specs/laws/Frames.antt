-- Laws of fixed headers and of frames.
use Rattle.std.proofs.Common.{◌≡◌, ◌≢◌, ℕ, ◌+◌, ◌-◌, ◌<◌, ◌≤◌, true, false, cond, ltb, List, ◌++◌, length, take, drop}
use Rattle.std.proofs.Common.{Result, Ok, Err, inl, inr, refl, sym, ap, subst, ◌∙◌, arith, length-append, length-drop}
use Rattle.std.proofs.lemmas.Bool.{cases_lt, ltb-false, le-ltb, lt-ltb}
use Rattle.std.proofs.lemmas.List.{take-append-drop, take-append-le, drop-append-le, drop-drop, drop_at, length-take-le}
use Rattle.byteorder.specs.Endian.{little_number}
use Rattle.byteorder.specs.Numbers.{little_from-append}
use Rattle.neli_wire.specs.declared.errors.DeError.{DeError}
use Rattle.neli_wire.specs.declared.errors.DeError.TheVariants.{InvalidInput, Memory}
use Rattle.neli_wire.specs.Sizes.{align}
use Rattle.neli_wire.specs.Bytes.{Reading, bytes_at, short}
use Rattle.neli_wire.specs.Reading.{◌>>=◌, IsLocal, and_then, value_at, number_at}
use Rattle.neli_wire.specs.laws.Reading.{bind_ok, guard_ok, ok_is, guard-not, bind-not}
use Rattle.neli_wire.specs.Frames.{Layout, IsFrame, frame_at, frame_after, frame_takes_memory, number_in}
use Rattle.neli_wire.specs.laws.Steps.{padded_payload_at, padded_payload_takes_memory}
use Rattle.neli_wire.specs.laws.Steps.{header_then, header_then_takes_memory}

abbrev done : {A : Type 0} → A → Result A DeError
done x = Ok x

-- ---- readings of a fixed width

-- the reading takes n bytes and gives their value, and refuses fewer as short
pub record IsWide {A : Type 0} (read : List ℕ → Reading A) (n : ℕ) (value : List ℕ → A) : Type 0 where
  pub long : (s : List ℕ) → n ≤ length s → read s ≡ Ok (value s, drop n s)
  pub brief : (s : List ℕ) → length s < n → read s ≡ Err short

pub number_first : (n : ℕ) (s : List ℕ) → n ≤ length s → little_number n (take n s) ≡ little_number n s
number_first n s le = sym (little_from-append n (take n s) (drop n s) (omega (arith, length-take-le n s le)))
    ∙ ap (little_number n) (take-append-drop n s)

-- the value that the next n bytes spell by their number
pub value_at-wide_by : {A : Type 0} (n : ℕ) (of : ℕ → A)
    → IsWide (value_at n (λ bytes. of (little_number n bytes))) n (λ s. of (little_number n s))
value_at-wide_by n of = record {
  long = λ s le. rw (le-ltb (length s) n le, number_first n s le) refl;
  brief = λ s lt. rw (lt-ltb (length s) n lt) refl;
}

pub number_at-wide_by : (n : ℕ) → IsWide (number_at n) n (little_number n)
number_at-wide_by n = value_at-wide_by n (λ x. x)

pub then-wide : {A B : Type 0} (read : List ℕ → Reading A) (next : A → List ℕ → Reading B) (n m : ℕ) (v : List ℕ
    → A) (w : A → List ℕ → B) → IsWide read n v → ((x : A) → IsWide (next x) m (w x))
    → IsWide (and_then read next) (n + m) (λ s. w (v s) (drop n s))
then-wide read next n m v w first after = record {
  long = λ s le.
      let one = first.long s (omega arith) in
      let two = (after (v s)).long (drop n s) (omega (arith, length-drop n s)) in
      rw one (two ∙ ap (λ (r : List ℕ). Ok (w (v s) (drop n s), r)) (drop-drop m n s));
  brief = λ s lt.
      elim (cases_lt (length s) n) [
        | inl none ↦ rw (first.brief s none) refl
        | inr some ↦ rw (first.long s some) ((after (v s)).brief (drop n s) (omega (arith, length-drop n s)))
      ];
}

pub done-wide : {A : Type 0} (x : A) → IsWide (λ s. Ok (x, s)) 0 (λ _. x)
done-wide x = record { long = λ s le. refl; brief = λ s lt. absurd (omega arith) }

-- ---- field by field is by places

-- a payload and its padding, one after the other
chain : {V C : Type 0} (r : Result V DeError) (rest : List ℕ) (pad : List ℕ → Reading (List ℕ)) (w : V × List ℕ
    → Result C DeError) (k : V → Result C DeError) → ((v : V)
    → ((pad rest >>= λ q. done {A = V × List ℕ} (v, q.1)) >>= w) ≡ k v)
    → (((r >>= λ v. done {A = V × List ℕ} (v, rest)) >>= λ p. (pad p.1 >>= λ q. done {A = V × List ℕ} (p.0, q.1)))
    >>= w) ≡ (r >>= k)
chain (Ok v) rest pad w k same = same v
chain (Err e) rest pad w k same = refl

bind_twice : {A B C : Type 0} (r : Result A DeError) (f : A → Result B DeError) (g : B → Result C DeError)
    → ((r >>= f) >>= g) ≡ (r >>= λ v. (f v >>= g))
bind_twice (Ok v) f g = refl
bind_twice (Err e) f g = refl

module _ {H V : Type 0} (layout : Layout H V) (s : List ℕ) (h : H) where
  padding-is : (v : V) → layout.size ≤ length s → layout.size ≤ layout.length_of h → layout.length_of h ≤ length s
      → (bytes_at (align (layout.length_of h) - layout.length_of h)
      (drop (layout.length_of h - layout.size) (drop layout.size s)) >>= λ q. done {A = (H × V) × List ℕ} ((h, v), q.1))
      ≡ cond (ltb (length s) (align (layout.length_of h))) (Err short)
      (Ok ((h, v), drop (align (layout.length_of h)) s))
  padding-is v head least le =
      let len = layout.length_of h in
      let at : drop (len - layout.size) (drop layout.size s) ≡ drop len s = drop-drop (len - layout.size) layout.size s
      ∙ ap (λ (n : ℕ). drop n s) (omega arith) in
      let end : drop (align len - len) (drop len s) ≡ drop (align len) s = drop-drop (align len - len) len s
      ∙ ap (λ (n : ℕ). drop n s) (omega arith) in
      let dropped = length-drop len s in
      elim (cases_lt (length s) (align len)) [
        | inl few ↦
            let inner : ltb (length (drop len s)) (align len - len) ≡ true = lt-ltb _ _ (omega arith) in
            rw (at, inner, lt-ltb (length s) (align len) few) refl
        | inr enough ↦
            let inner : ltb (length (drop len s)) (align len - len) ≡ false = le-ltb _ _ (omega arith) in
            rw (at, inner, le-ltb (length s) (align len) enough, end) refl
      ]

  padded_payload_at-is : layout.size ≤ length s → (padded_payload_at (layout.payload_of h) layout.size
      (layout.length_of h) (drop layout.size s) >>= λ v. done {A = (H × V) × List ℕ} ((h, v.0), v.1))
      ≡ frame_after layout h s
  padded_payload_at-is head =
      let len = layout.length_of h in
      let dropped = length-drop layout.size s in
      elim (cases_lt len layout.size) [
        | inl few ↦ rw (lt-ltb len layout.size few) refl
        | inr least ↦
            elim (cases_lt (length s) len) [
              | inl few ↦
                  let inner : ltb (length (drop layout.size s)) (len - layout.size) ≡ true = lt-ltb _ _ (omega arith) in
                  rw (le-ltb len layout.size least, inner, lt-ltb (length s) len few) refl
              | inr enough ↦
                  let inner : ltb (length (drop layout.size s)) (len - layout.size) ≡ false =
                  le-ltb _ _ (omega arith) in
                  rw (le-ltb len layout.size least, inner, le-ltb (length s) len enough)
                  (chain (layout.payload_of h (take (len - layout.size) (drop layout.size s)))
                  (drop (len - layout.size) (drop layout.size s)) (bytes_at (align len - len)) _ _
                  (λ v. bind_twice (bytes_at (align len - len) (drop (len - layout.size) (drop layout.size s))) _ _
                  ∙ padding-is v head least enough))
            ]
      ]

-- reading a header and then what it states is reading by places
pub header_then-is : {H V : Type 0} (layout : Layout H V) (header_at : List ℕ → Reading H)
    → IsWide header_at layout.size layout.header_of → (s : List ℕ)
    → header_then header_at layout.length_of layout.size layout.payload_of s ≡ frame_at layout s
unfolding frame_at
header_then-is layout header_at wide s =
    elim (cases_lt (length s) layout.size) [
      | inl few ↦ rw (wide.brief s few, lt-ltb (length s) layout.size few) refl
      | inr enough ↦ rw (wide.long s enough, le-ltb (length s) layout.size enough)
          (padded_payload_at-is layout s (layout.header_of s) enough)
    ]

-- the same for where a read takes memory
pub header_then_takes_memory-is : {H V : Type 0} (layout : Layout H V) (header_at : List ℕ → Reading H) (takes : H
    → List ℕ → Type 0) → IsWide header_at layout.size layout.header_of → (s : List ℕ)
    → header_then_takes_memory header_at layout.length_of layout.size takes s → frame_takes_memory layout takes s
header_then_takes_memory-is layout header_at takes wide s h =
    elim (cases_lt (length s) layout.size) [
      | inl few ↦ absurd (rw (wide.brief s few) at h)
      | inr enough ↦
          let body : padded_payload_takes_memory (takes (layout.header_of s)) layout.size
          (layout.length_of (layout.header_of s)) (drop layout.size s) = rw (wide.long s enough) at h in
          (enough, body.0, omega (arith, body.1.0, length-drop layout.size s), body.1.1)
    ]

-- ---- frames

-- the first bytes alone give a number by its place
pub number_in-take : (n i m : ℕ) (s : List ℕ) → i + n ≤ m → m ≤ length s → number_in n i (take m s) ≡ number_in n i s
number_in-take n i m s le long =
    let len : length (take m s) ≡ m = length-take-le m s long in
    let more : number_in n i (take m s ++ drop m s) ≡ number_in n i (take m s) =
    ap (little_number n) (drop-append-le i (take m s) (drop m s) (omega arith))
    ∙ little_from-append n (drop i (take m s)) (drop m s) (omega (arith, length-drop i (take m s))) in
    sym more ∙ ap (number_in n i) (take-append-drop m s)

-- a header's meaning depends only on its own bytes
pub record IsPlaced {H V : Type 0} (layout : Layout H V) : Type 0 where
  pub own : (s : List ℕ) → layout.size ≤ length s → layout.header_of (take layout.size s) ≡ layout.header_of s

module _ {H V : Type 0} (layout : Layout H V) (placed : IsPlaced layout) where
  header-append : (frame rest : List ℕ) → layout.size ≤ length frame
      → layout.header_of (frame ++ rest) ≡ layout.header_of frame
  header-append frame rest le =
      sym (placed.own (frame ++ rest) (omega (arith, length-append frame rest)))
      ∙ ap layout.header_of (take-append-le layout.size frame rest le)
      ∙ placed.own frame le

  align-le : (n : ℕ) → n ≤ align n
  align-le n = omega arith

  -- the body of a frame reads the same past its end as within it
  payload-append : (n : ℕ) (frame rest : List ℕ) → layout.size ≤ n → n ≤ length frame
      → take (n - layout.size) (drop layout.size (frame ++ rest)) ≡ take (n - layout.size) (drop layout.size frame)
  payload-append n frame rest least le =
      ap (take (n - layout.size)) (drop-append-le layout.size frame rest (omega arith))
      ∙ take-append-le (n - layout.size) (drop layout.size frame) rest
      (omega (arith, length-drop layout.size frame))

  -- bytes that begin with a frame are read as that frame
  pub frame_at-frame : (frame rest : List ℕ) (h : H) (v : V) → IsFrame layout frame h v
      → frame_at layout (frame ++ rest) ≡ Ok ((h, v), rest)
  unfolding frame_at
  frame_at-frame frame rest h v is =
      let n = layout.length_of h in
      let le = align-le n in
      let head : layout.size ≤ length frame = omega (arith, is.whole, is.least) in
      let headers : layout.header_of (frame ++ rest) ≡ h = header-append frame rest head ∙ is.header_is in
      let both = length-append frame rest in
      let t1 : ltb (length (frame ++ rest)) layout.size ≡ false = le-ltb _ _ (omega arith) in
      let t2 : ltb n layout.size ≡ false = le-ltb _ _ is.least in
      let t3 : ltb (length (frame ++ rest)) n ≡ false = le-ltb _ _ (omega (arith, is.whole)) in
      let t4 : ltb (length (frame ++ rest)) (align n) ≡ false = le-ltb _ _ (omega (arith, is.whole)) in
      let body : layout.payload_of h (take (n - layout.size) (drop layout.size (frame ++ rest))) ≡ Ok v =
      ap (layout.payload_of h) (payload-append n frame rest is.least (omega (arith, is.whole))) ∙ is.payload_is in
      let end : drop (align n) (frame ++ rest) ≡ rest = drop_at frame rest (align n) is.whole in
      let at_h : frame_after layout h (frame ++ rest) ≡ Ok ((h, v), rest) = rw (t2, t3, body, t4, end) refl in
      rw t1 (ap (λ (x : H). frame_after layout x (frame ++ rest)) headers ∙ at_h)

  -- what is read has a frame
  pub frame_of-frame_at : (s r : List ℕ) (h : H) (v : V) → frame_at layout s ≡ Ok ((h, v), r)
      → (frame : List ℕ) × (s ≡ frame ++ r) × IsFrame layout frame h v
  unfolding frame_at
  frame_of-frame_at s r h v e =
      let g1 = guard_ok (ltb (length s) layout.size) short _ ((h, v), r) e in
      let head : H = layout.header_of s in
      let n = layout.length_of head in
      let g2 = guard_ok (ltb n layout.size) (InvalidInput n) _ ((h, v), r) g1.1 in
      let g3 = guard_ok (ltb (length s) n) (InvalidInput (n - layout.size)) _ ((h, v), r) g2.1 in
      let b = bind_ok (layout.payload_of head (take (n - layout.size) (drop layout.size s))) _ ((h, v), r) g3.1 in
      let g4 = guard_ok (ltb (length s) (align n)) short _ ((h, v), r) b.2 in
      let some : layout.size ≤ length s = ltb-false _ _ g1.0 in
      let least : layout.size ≤ n = ltb-false _ _ g2.0 in
      let enough : align n ≤ length s = ltb-false _ _ g4.0 in
      let le = align-le n in
      let frame : List ℕ = take (align n) s in
      let rest : List ℕ = drop (align n) s in
      let parts : frame ++ rest ≡ s = take-append-drop (align n) s in
      let len : length frame ≡ align n = length-take-le (align n) s enough in
      let headers : layout.header_of frame ≡ head = sym (header-append frame rest (omega (arith, len)))
      ∙ ap layout.header_of parts in
      let body : layout.payload_of head (take (n - layout.size) (drop layout.size frame)) ≡ Ok b.0 =
      ap (layout.payload_of head) (sym (payload-append n frame rest least (omega (arith, len)))
      ∙ ap (λ (t : List ℕ). take (n - layout.size) (drop layout.size t)) parts) ∙ b.1 in
      let P : (H × V) × List ℕ → Type 0 = λ q. (f : List ℕ) × (s ≡ f ++ q.1) × IsFrame layout f q.0.0 q.0.1 in
      let found : P ((head, b.0), rest) = (
        frame,
        sym parts,
        record { header_is = headers; least = least; whole = len; payload_is = body },
      ) in
      let same : ((head, b.0), rest) ≡ ((h, v), r) = ok_is ((head, b.0), rest) ((h, v), r) g4.1 in
      subst P {x = ((head, b.0), rest)} {y = ((h, v), r)} same found

  -- a frame depends only on its own bytes
  pub frame_at-local : IsLocal (frame_at layout)
  frame_at-local s r p e =
      let f = frame_of-frame_at s r p.0 p.1 e in
      (f.0, f.1, λ t. frame_at-frame f.0 t p.0 p.1 f.2)

pub frame_at-no_memory : {H V : Type 0} (layout : Layout H V)
    → ((h : H) (s : List ℕ) → layout.payload_of h s ≢ Err Memory) → (s : List ℕ) → frame_at layout s ≢ Err Memory
unfolding frame_at
frame_at-no_memory {H} {V} layout none s =
    let h = layout.header_of s in
    let n = layout.length_of h in
    guard-not (ltb (length s) layout.size) short Memory _ (λ f. cc)
    (guard-not (ltb n layout.size) (InvalidInput n) Memory _ (λ f. cc)
    (guard-not (ltb (length s) n) (InvalidInput (n - layout.size)) Memory _ (λ f. cc)
    (bind-not (layout.payload_of h (take (n - layout.size) (drop layout.size s))) _ Memory
    (none h (take (n - layout.size) (drop layout.size s)))
    (λ v. guard-not (ltb (length s) (align n)) short Memory (done {A = (H × V) × List ℕ} ((h, v), drop (align n) s))
    (λ f. cc) (λ f. cc)))))

-- a frame takes bytes
pub frame_at-shorter : {H V : Type 0} (layout : Layout H V) → IsPlaced layout → 0 < layout.size
    → (s r : List ℕ) (h : H) (v : V) → frame_at layout s ≡ Ok ((h, v), r) → length r < length s
frame_at-shorter layout placed some s r h v e =
    let f = frame_of-frame_at layout placed s r h v e in
    omega (arith, ap length f.1, length-append f.0 r, f.2.whole, f.2.least, align-le layout placed (layout.length_of h))
