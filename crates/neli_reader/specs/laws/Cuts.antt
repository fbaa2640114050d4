-- Laws of cuts.
use Rattle.std.proofs.Common.{◌≡◌, ◌≢◌, ℕ, zero, suc, ◌+◌, ◌*◌, ◌/◌, ◌<◌, ◌≤◌}
use Rattle.std.proofs.Common.{List, [], ◌∷◌, ◌++◌, length, Result, Ok, Err, Option, Some}
use Rattle.std.proofs.Common.{None, refl, sym, ap, subst, ◌∙◌, append_assoc, arith, length-append, drop}
use Rattle.std.proofs.lemmas.List.{append-nil}
use Rattle.neli_wire.specs.Bytes.{Reading}
use Rattle.neli_wire.specs.declared.errors.DeError.{DeError}
use Rattle.neli_wire.specs.declared.errors.DeError.TheVariants.{Msg, Io, Utf8, InvalidInput, Memory}
use Rattle.neli_wire.specs.Frames.{Layout, IsFrame, AreFrames, frame_at}
use Rattle.neli_wire.specs.Refusals.{Refuses}
use Rattle.neli_wire.specs.laws.Frames.{IsPlaced, frame_at-frame, frame_of-frame_at, frame_at-shorter}
use Rattle.neli_wire.specs.laws.Reading.{ok_is}
use Rattle.neli_reader.specs.Cuts.{Cuts, Cut, EndsIn, message_before, messages_before, cut_from, cut_by, cut_of}

pub drop_whole : (s : List ℕ) → drop (length s) s ≡ []
drop_whole [] = refl
drop_whole (b ∷ s) = drop_whole s

pub empty_is : (s : List ℕ) → length s ≡ 0 → s ≡ []
empty_is [] e = refl
empty_is (b ∷ s) e = absurd (omega (arith, e))

align-le : (n : ℕ) → n ≤ (n + 3) / 4 * 4
align-le n = omega arith

module _ {H V : Type 0} (layout : Layout H V) (placed : IsPlaced layout) (some : 0 < layout.size) where
  -- a frame has at least the bytes of a header
  pub frame-long : (frame : List ℕ) (m : H × V) → IsFrame layout frame m.0 m.1 → layout.size ≤ length frame
  frame-long frame m is = omega (arith, is.whole, is.least, align-le (layout.length_of m.0))

  -- ---- message by message

  -- the same, message by message
  abbrev pub CutsEach : List ℕ → List (H × V) → Option DeError → Type 0
  CutsEach b [] f = EndsIn layout b f
  CutsEach b (m ∷ ms) f = (frame : List ℕ) × (rest : List ℕ) × (b ≡ frame ++ rest) × IsFrame layout frame m.0 m.1
      × CutsEach rest ms f

  each-of : (front rest : List ℕ) (ms : List (H × V)) (f : Option DeError) → AreFrames layout front ms
      → EndsIn layout rest f → CutsEach (front ++ rest) ms f
  each-of front rest [] f are ends = subst (λ (x : List ℕ). EndsIn layout (x ++ rest) f) (sym are) ends
  each-of front rest (m ∷ ms) f are ends = (
    are.0,
    are.1 ++ rest,
    ap (λ (x : List ℕ). x ++ rest) are.2 ∙ append_assoc are.0 are.1 rest,
    are.3,
    each-of are.1 rest ms f are.4 ends,
  )

  pub Cuts-each : (b : List ℕ) (ms : List (H × V)) (f : Option DeError) → Cuts layout b ms f → CutsEach b ms f
  Cuts-each b ms f c = subst (λ (x : List ℕ). CutsEach x ms f) (sym c.2) (each-of c.0 c.1 ms f c.3 c.4)

  pub each-Cuts : (b : List ℕ) (ms : List (H × V)) (f : Option DeError) → CutsEach b ms f → Cuts layout b ms f
  each-Cuts b [] f ends = ([], b, refl, refl, ends)
  each-Cuts b (m ∷ ms) f c =
      let more = each-Cuts c.1 ms f c.4 in (
        c.0 ++ more.0,
        more.1,
        c.2 ∙ ap (λ (x : List ℕ). c.0 ++ x) more.2 ∙ sym (append_assoc c.0 more.0 more.1),
        (c.0, more.0, refl, c.3, more.3),
        more.4,
      )

  -- what is read takes at least the bytes of a header
  pub frame_at-longer : (s r : List ℕ) (m : H × V) → frame_at layout s ≡ Ok (m, r) → length r + layout.size ≤ length s
  frame_at-longer s r m e =
      let f = frame_of-frame_at layout placed s r m.0 m.1 e in
      omega (arith, ap length f.1, length-append f.0 r, frame-long f.0 m f.2)

  -- ---- a byte list has at most one cut

  frame_some : (frame rest : List ℕ) (m : H × V) → IsFrame layout frame m.0 m.1 → [] ≡ frame ++ rest → ⊥
  frame_some frame rest m is e = absurd (omega (
    arith,
    ap length e,
    length-append frame rest,
    frame-long frame m is,
    some,
  ))

  read_of : (b frame rest : List ℕ) (m : H × V) → b ≡ frame ++ rest → IsFrame layout frame m.0 m.1
      → frame_at layout b ≡ Ok (m, rest)
  read_of b frame rest m is frames = ap (frame_at layout) is ∙ frame_at-frame layout placed frame rest m.0 m.1 frames

  one_each : (b : List ℕ) (ms ns : List (H × V)) (f g : Option DeError) → CutsEach b ms f → CutsEach b ns g
      → (ms ≡ ns) × (f ≡ g)
  one_each b [] [] None None p q = (refl, refl)
  one_each b [] [] None (Some d) p q = absurd (q.0 p)
  one_each b [] [] (Some e) None p q = absurd (p.0 q)
  one_each b [] [] (Some e) (Some d) p q = (refl, let same = sym p.1 ∙ q.1 in cc)
  one_each b [] (n ∷ ns) None g p q = absurd (frame_some q.0 q.1 n q.3 (sym p ∙ q.2))
  one_each b (m ∷ ms) [] f None p q = absurd (frame_some p.0 p.1 m p.3 (sym q ∙ p.2))
  one_each b [] (n ∷ ns) (Some e) g p q = let clash = sym p.1 ∙ read_of b q.0 q.1 n q.2 q.3 in absurd cc
  one_each b (m ∷ ms) [] f (Some e) p q = let clash = sym q.1 ∙ read_of b p.0 p.1 m p.2 p.3 in absurd cc
  one_each b (m ∷ ms) (n ∷ ns) f g p q =
      let pair : (m, p.1) ≡ (n, q.1) = ok_is (m, p.1) (n, q.1) (sym (read_of b p.0 p.1 m p.2 p.3)
      ∙ read_of b q.0 q.1 n q.2 q.3) in
      let rests : q.1 ≡ p.1 = sym (ap (λ (x : (H × V) × List ℕ). x.1) pair) in
      let others = one_each p.1 ms ns f g p.4 (subst (λ (x : List ℕ). CutsEach x ns g) rests q.4) in
      (ap (λ (x : (H × V) × List ℕ). x.0 ∷ ms) pair ∙ ap (λ (xs : List (H × V)). n ∷ xs) others.0, others.1)

  pub one_cut : (b : List ℕ) (ms ns : List (H × V)) (f g : Option DeError) → Cuts layout b ms f → Cuts layout b ns g
      → (ms ≡ ns) × (f ≡ g)
  one_cut b ms ns f g p q = one_each b ms ns f g (Cuts-each b ms f p) (Cuts-each b ns g q)

  -- ---- and `cut_of` is that cut

  abbrev read : List ℕ → Reading (H × V)
  read = frame_at layout

  -- bytes that begin with a reading are cut as their rest is, where that is known
  cut_from-each : (s : List ℕ) (r : Reading (H × V)) (later : List ℕ → Cut (H × V)) → s ≢ [] → read s ≡ r
      → ((t : List ℕ) → length t < length s → CutsEach t (later t).0 (later t).1)
      → CutsEach s (cut_from r later).0 (cut_from r later).1
  cut_from-each s (Err e) later any is rest = (any, is)
  cut_from-each s (Ok p) later any is rest =
      let f = frame_of-frame_at layout placed s p.1 p.0.0 p.0.1 is in
      (f.0, p.1, f.1, f.2, rest p.1 (frame_at-shorter layout placed some s p.1 p.0.0 p.0.1 is))

  cut_by-each : (fuel : ℕ) (s : List ℕ) → length s ≤ fuel → CutsEach s (cut_by read fuel s).0 (cut_by read fuel s).1
  unfolding cut_by
  cut_by-each zero [] le = refl
  cut_by-each (suc fuel) [] le = refl
  cut_by-each zero (b ∷ s) le = absurd (omega arith)
  cut_by-each (suc fuel) (b ∷ s) le =
      cut_from-each (b ∷ s) (read (b ∷ s)) (cut_by read fuel) (λ e. cc) refl (λ t lt. cut_by-each fuel t (omega arith))

  pub cut_of-each : (b : List ℕ) → CutsEach b (cut_of layout b).0 (cut_of layout b).1
  unfolding cut_of
  cut_of-each b = cut_by-each (length b) b (omega arith)

  pub cut_of-Cuts : (b : List ℕ) → Cuts layout b (cut_of layout b).0 (cut_of layout b).1
  cut_of-Cuts b = each-Cuts b (cut_of layout b).0 (cut_of layout b).1 (cut_of-each b)

  -- each cut is `cut_of`
  pub cut_of-is : (b : List ℕ) (ms : List (H × V)) (f : Option DeError) → CutsEach b ms f → cut_of layout b ≡ (ms, f)
  cut_of-is b ms f c =
      let same = one_each b (cut_of layout b).0 ms (cut_of layout b).1 f (cut_of-each b) c in
      ap (λ (x : List (H × V)). (x, (cut_of layout b).1)) same.0 ∙ ap (λ (g : Option DeError). (ms, g)) same.1

  -- the end, a message, a fault
  pub cut_of-end : cut_of layout [] ≡ ([], None)
  cut_of-end = cut_of-is [] [] None refl

  pub cut_of-message : (s r : List ℕ) (m : H × V) → read s ≡ Ok (m, r)
      → cut_of layout s ≡ message_before m (cut_of layout r)
  cut_of-message s r m e =
      let f = frame_of-frame_at layout placed s r m.0 m.1 e in
      cut_of-is s (m ∷ (cut_of layout r).0) (cut_of layout r).1 (f.0, r, f.1, f.2, cut_of-each r)

  pub cut_of-fault : (s : List ℕ) (e : DeError) → s ≢ [] → read s ≡ Err e → cut_of layout s ≡ ([], Some e)
  cut_of-fault s e any is = cut_of-is s [] (Some e) (any, is)

  each-join : (a b : List ℕ) (ms ns : List (H × V)) (f : Option DeError) → CutsEach a ms None → CutsEach b ns f
      → CutsEach (a ++ b) (ms ++ ns) f
  each-join a b [] ns f p q = subst (λ (x : List ℕ). CutsEach (x ++ b) ns f) (sym p) q
  each-join a b (m ∷ ms) ns f p q =
      (p.0, p.1 ++ b, ap (λ (x : List ℕ). x ++ b) p.2 ∙ append_assoc p.0 p.1 b, p.3, each-join p.1 b ms ns f p.4 q)

  -- if the first bytes have no fault, they are cut as alone, and so are those after them
  pub cut_of-join : (a b : List ℕ) → (cut_of layout a).1 ≡ None
      → cut_of layout (a ++ b) ≡ messages_before (cut_of layout a).0 (cut_of layout b)
  cut_of-join a b whole =
      cut_of-is (a ++ b) _ _ (each-join a b _ _ _ (subst
      (λ (g : Option DeError). CutsEach a (cut_of layout a).0 g) whole (cut_of-each a)) (cut_of-each b))

  -- ---- the greatest number of messages

  each-long : (b : List ℕ) (ms : List (H × V)) (f : Option DeError) → CutsEach b ms f
      → length ms * layout.size ≤ length b
  each-long b [] f c = omega arith
  each-long b (m ∷ ms) f c =
      omega (arith, ap length c.2, length-append c.0 c.1, frame-long c.0 m c.3, each-long c.1 ms f c.4)

  pub Cuts-long : (b : List ℕ) (ms : List (H × V)) (f : Option DeError) → Cuts layout b ms f
      → length ms * layout.size ≤ length b
  Cuts-long b ms f c = each-long b ms f (Cuts-each b ms f c)

-- a refusal other than for memory is the reading's own
pub refused_is : {A : Type 0} (outcome : Result A DeError) (memory : Type 0) (e : DeError) → e ≢ Memory
    → Refuses outcome memory e → outcome ≡ Err e
refused_is outcome memory (Msg m) h r = r
refused_is outcome memory (Io k) h r = r
refused_is outcome memory (Utf8 u) h r = r
refused_is outcome memory (InvalidInput k) h r = r
refused_is outcome memory Memory h r = absurd (h refl)

-- bytes without a fault are frames only
pub whole_frames : {H V : Type 0} (layout : Layout H V) (b : List ℕ) (ms : List (H × V)) → Cuts layout b ms None
    → AreFrames layout b ms
whole_frames layout b ms cuts =
    let whole : b ≡ cuts.0 = cuts.2 ∙ ap (λ (x : List ℕ). cuts.0 ++ x) cuts.4 ∙ append-nil cuts.0 in
    subst (λ (x : List ℕ). AreFrames layout x ms) (sym whole) cuts.3
