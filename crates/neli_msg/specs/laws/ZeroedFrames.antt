-- Bytes that are frames, with another list of bytes in place of each.
use Rattle.std.proofs.Common.{◌≡◌, ℕ, zero, suc, ◌+◌, ◌<◌, ◌≤◌, List, [], ◌∷◌, ◌++◌, length, map}
use Rattle.std.proofs.Common.{take, drop, Ok, inl, inr, refl, sym, ap, subst, ◌∙◌, arith, length-append, length-drop}
use Rattle.std.specs.Prelude.{⊤}
use Rattle.std.specs.List.{All}
use Rattle.std.proofs.lemmas.List.Elements.{All-cons, All-head, All-nil, All-tail}
use Rattle.std.proofs.lemmas.Bool.{cases_lt}
use Rattle.std.proofs.lemmas.List.{drop_at, drop-drop, get_or_append_left, get_or-append-add}
use Rattle.std.proofs.lemmas.List.{get_or_past, take-append-drop, take_at}
use Rattle.std.proofs.Math.Seq.{take-add}
use Rattle.neli_wire.specs.Frames.{Layout, IsFrame, AreFrames, number_in}
use Rattle.neli_wire.specs.Numbers.{AreBytes, little_bytes}
use Rattle.neli_wire.specs.Sizes.{align}
use Rattle.neli_wire.specs.Writing.{Wire, ◌+++◌, wire_all}
use Rattle.neli_wire.specs.laws.Numbers.{little_bytes-number}
use Rattle.neli_msg.specs.Zeroed.{frames_by}

-- ---- bytes of parts

pub bytes-front : (x y : List ℕ) → AreBytes (x ++ y) → AreBytes x
bytes-front x y bytes i =
    elim (cases_lt i (length x)) [
      | inl lt ↦ subst (λ (n : ℕ). n < 256) (get_or_append_left x y 0 i lt) (bytes i)
      | inr le ↦ subst (λ (n : ℕ). n < 256) (sym (get_or_past x i 0 le)) (omega arith)
    ]

pub bytes-back : (x y : List ℕ) → AreBytes (x ++ y) → AreBytes y
bytes-back x y bytes i = subst (λ (n : ℕ). n < 256) (get_or-append-add x y i 0) (bytes (length x + i))

pub bytes-take : (n : ℕ) (s : List ℕ) → AreBytes s → AreBytes (take n s)
bytes-take n s bytes =
    bytes-front (take n s) (drop n s) (subst (λ (x : List ℕ). AreBytes x) (sym (take-append-drop n s)) bytes)

pub bytes-drop : (n : ℕ) (s : List ℕ) → AreBytes s → AreBytes (drop n s)
bytes-drop n s bytes =
    bytes-back (take n s) (drop n s) (subst (λ (x : List ℕ). AreBytes x) (sym (take-append-drop n s)) bytes)

-- the bytes of the number at place i, and then m bytes
pub place : (n i m : ℕ) (s rest : List ℕ) → i + n ≤ length s → AreBytes s → rest ≡ take m (drop (i + n) s)
    → little_bytes n (number_in n i s) ++ rest ≡ take (n + m) (drop i s)
place n i m s rest le bytes after =
    ap (λ (front : List ℕ). front ++ rest) (little_bytes-number n (drop i s) (omega (arith, length-drop i s))
    (bytes-drop i s bytes))
    ∙ ap (λ (back : List ℕ). take n (drop i s) ++ back) (after ∙ ap (λ (x : List ℕ). take m x) (sym (drop-drop n i s)))
    ∙ sym (take-add n m (drop i s))

-- the bytes of the number at place i
pub last_place : (n i : ℕ) (s : List ℕ) → i + n ≤ length s → AreBytes s
    → little_bytes n (number_in n i s) ≡ take n (drop i s)
last_place n i s le bytes =
    little_bytes-number n (drop i s) (omega (arith, length-drop i s)) (bytes-drop i s bytes)

-- ---- frames

module _ (stated : List ℕ → ℕ) (zeroed : List ℕ → List ℕ) where
  pub frames_by-nil : (fuel : ℕ) → frames_by stated zeroed fuel [] ≡ []
  unfolding frames_by
  frames_by-nil zero = refl
  frames_by-nil (suc fuel) = refl

  pub frames_by-step : (fuel : ℕ) (frame rest : List ℕ) → 0 < length frame
      → length frame ≡ align (stated (frame ++ rest)) → frames_by stated zeroed (suc fuel) (frame ++ rest)
      ≡ zeroed frame ++ frames_by stated zeroed fuel rest
  unfolding frames_by
  frames_by-step fuel [] rest some len = absurd (omega arith)
  frames_by-step fuel (b ∷ f) rest some len =
      let n = align (stated (b ∷ f ++ rest)) in
      let first : take n (b ∷ f ++ rest) ≡ b ∷ f = take_at (b ∷ f) rest n len in
      let others : drop n (b ∷ f ++ rest) ≡ rest = drop_at (b ∷ f) rest n len in
      rw (first, others) refl

-- frames of a layout that takes at least a byte and states its length in its own bytes
pub record States {H V : Type 0} (layout : Layout H V) (stated : List ℕ → ℕ) : Type 0 where
  pub some : (frame : List ℕ) (h : H) (v : V) → IsFrame layout frame h v → 0 < length frame
  pub whole : (frame rest : List ℕ) (h : H) (v : V) → IsFrame layout frame h v
      → length frame ≡ align (stated (frame ++ rest))

module _ {H V : Type 0} (layout : Layout H V) (stated : List ℕ → ℕ) (zeroed : List ℕ
    → List ℕ) (states : States layout stated) where
  -- what is written of each frame is what replaces it
  pub frames-wire : (wire : H × V → Wire) (P : H × V → Type 0)
      → ((frame : List ℕ) (a : H × V) → AreBytes frame → P a → IsFrame layout frame a.0 a.1
      → wire a ≡ Ok (zeroed frame)) → (fuel : ℕ) (s : List ℕ) (items : List (H × V)) → AreBytes s → length s ≤ fuel
      → All P items → AreFrames layout s items → wire_all wire items ≡ Ok (frames_by stated zeroed fuel s)
  frames-wire wire P each fuel s [] bytes le ps are = rw (are, frames_by-nil stated zeroed fuel) refl
  frames-wire wire P each zero s (a ∷ items) bytes le ps are =
      absurd (omega (arith, ap length are.2, length-append are.0 are.1, states.some are.0 a.0 a.1 are.3))
  frames-wire wire P each (suc fuel) s (a ∷ items) bytes le ps are =
      let some = states.some are.0 a.0 a.1 are.3 in
      let parts : AreBytes (are.0 ++ are.1) = subst (λ (x : List ℕ). AreBytes x) are.2 bytes in
      let first = each are.0 a (bytes-front are.0 are.1 parts) (All-head P a items ps) are.3 in
      let shorter : length are.1 ≤ fuel = omega (arith, ap length are.2, length-append are.0 are.1) in
      let others = frames-wire wire P each fuel are.1 items (bytes-back are.0 are.1 parts) shorter
      (All-tail P a items ps) are.4 in
      let step = frames_by-step stated zeroed fuel are.0 are.1 some (states.whole are.0 are.1 a.0 a.1 are.3) in
      rw (are.2, step, first, others) refl

  -- what replaces frames of some length has the same length
  pub frames-length : ((frame : List ℕ) (a : H × V) → IsFrame layout frame a.0 a.1
      → length (zeroed frame) ≡ length frame) → (fuel : ℕ) (s : List ℕ) (items : List (H × V)) → length s ≤ fuel
      → AreFrames layout s items → length (frames_by stated zeroed fuel s) ≡ length s
  frames-length each fuel s [] le are = rw (are, frames_by-nil stated zeroed fuel) refl
  frames-length each zero s (a ∷ items) le are =
      absurd (omega (arith, ap length are.2, length-append are.0 are.1, states.some are.0 a.0 a.1 are.3))
  frames-length each (suc fuel) s (a ∷ items) le are =
      let some = states.some are.0 a.0 a.1 are.3 in
      let shorter : length are.1 ≤ fuel = omega (arith, ap length are.2, length-append are.0 are.1) in
      let first = each are.0 a are.3 in
      let others = frames-length each fuel are.1 items shorter are.4 in
      let step = frames_by-step stated zeroed fuel are.0 are.1 some (states.whole are.0 are.1 a.0 a.1 are.3) in
      rw (are.2, step) (length-append (zeroed are.0) (frames_by stated zeroed fuel are.1)
      ∙ rw (first, others) (sym (length-append are.0 are.1)))

  -- frames that replace frames are frames again
  pub frames-again : ((frame : List ℕ) (a : H × V) → IsFrame layout frame a.0 a.1
      → IsFrame layout (zeroed frame) a.0 a.1) → (fuel : ℕ) (s : List ℕ) (items : List (H × V)) → length s ≤ fuel
      → AreFrames layout s items → AreFrames layout (frames_by stated zeroed fuel s) items
  frames-again each fuel s [] le are = rw (are, frames_by-nil stated zeroed fuel) refl
  frames-again each zero s (a ∷ items) le are =
      absurd (omega (arith, ap length are.2, length-append are.0 are.1, states.some are.0 a.0 a.1 are.3))
  frames-again each (suc fuel) s (a ∷ items) le are =
      let some = states.some are.0 a.0 a.1 are.3 in
      let shorter : length are.1 ≤ fuel = omega (arith, ap length are.2, length-append are.0 are.1) in
      let step = frames_by-step stated zeroed fuel are.0 are.1 some (states.whole are.0 are.1 a.0 a.1 are.3) in
      let same : frames_by stated zeroed (suc fuel) s ≡ zeroed are.0 ++ frames_by stated zeroed fuel are.1 =
      ap (λ (x : List ℕ). frames_by stated zeroed (suc fuel) x) are.2 ∙ step in (
        zeroed are.0,
        frames_by stated zeroed fuel are.1,
        same,
        each are.0 a are.3,
        frames-again each fuel are.1 items shorter are.4,
      )

  -- the length of frames is a multiple of four
  pub frames-aligned : (s : List ℕ) (items : List (H × V)) → AreFrames layout s items → align (length s) ≡ length s
  frames-aligned s [] are = rw are refl
  frames-aligned s (a ∷ items) are =
      let later = frames-aligned are.1 items are.4 in
      omega (arith, later, ap length are.2, length-append are.0 are.1, are.3.whole)

-- writing the mapped values is writing the values by way of the map
pub wire_all-map : {A B : Type 0} (wire : B → Wire) (of : A → B) (xs : List A)
    → wire_all wire (map of xs) ≡ wire_all (λ x. wire (of x)) xs
wire_all-map wire of [] = refl
wire_all-map wire of (x ∷ xs) = ap (λ (w : Wire). wire (of x) +++ w) (wire_all-map wire of xs)

pub all-true : {A : Type 0} (xs : List A) → All (λ _. ⊤) xs
all-true [] = All-nil (λ _. ⊤)
all-true (x ∷ xs) = All-cons (λ _. ⊤) x xs tt (all-true xs)
