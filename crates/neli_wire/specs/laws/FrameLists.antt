-- Laws of lists of frames.
use Rattle.std.proofs.Common.{◌≡◌, ℕ, ◌<◌, List, [], ◌∷◌, ◌++◌, length}
use Rattle.std.proofs.Common.{Ok, Err, refl, sym, ap, ◌∙◌, append_assoc, arith}
use Rattle.std.proofs.lemmas.List.{append-nil}
use Rattle.neli_wire.specs.declared.errors.DeError.{DeError}
use Rattle.neli_wire.specs.Frames.{Layout, IsFrame, AreFrames, frame_at}
use Rattle.neli_wire.specs.laws.Elements.{elements}
use Rattle.neli_wire.specs.laws.Frames.{IsPlaced, frame_at-frame, frame_of-frame_at, frame_at-local}
use Rattle.neli_wire.specs.laws.Lists.{elements-are, are-elements, elements-refusal}
use Rattle.neli_wire.specs.Reading.{AreElements, refusal_within}

module _ {H V : Type 0} (layout : Layout H V) (placed : IsPlaced layout) (some : 0 < layout.size) where
  -- a frame takes at least a byte
  frame-some : (frame : List ℕ) (h : H) (v : V) → IsFrame layout frame h v → 0 < length frame
  frame-some frame h v is = omega (arith, is.whole, is.least, some)

  pub elements-frames : (s : List ℕ) (items : List (H × V)) → AreElements (frame_at layout) s items
      → AreFrames layout s items
  elements-frames s [] are = are
  elements-frames s (a ∷ items) are =
      let alone : frame_at layout (are.0 ++ []) ≡ Ok ((a.0, a.1), []) = are.4 [] in
      let f = frame_of-frame_at layout placed (are.0 ++ []) [] a.0 a.1 alone in
      let same : are.0 ≡ f.0 = sym (append-nil are.0) ∙ f.1 ∙ append-nil f.0 in
      (f.0, are.1, are.2 ∙ ap (λ (x : List ℕ). x ++ are.1) same, f.2, elements-frames are.1 items are.5)

  pub frames-elements : (s : List ℕ) (items : List (H × V)) → AreFrames layout s items
      → AreElements (frame_at layout) s items
  frames-elements s [] are = are
  frames-elements s (a ∷ items) are = (
    are.0,
    are.1,
    are.2,
    frame-some are.0 a.0 a.1 are.3,
    λ t. frame_at-frame layout placed are.0 t a.0 a.1 are.3,
    frames-elements are.1 items are.4,
  )

  -- a list that is read is its frames
  pub list-frames : (s : List ℕ) (items : List (H × V)) → elements (frame_at layout) s ≡ Ok items
      → AreFrames layout s items
  list-frames s items e = elements-frames s items (elements-are (frame_at layout)
      (frame_at-local layout placed) s items e)

  -- frames are read as their list
  pub frames-list : (s : List ℕ) (items : List (H × V)) → AreFrames layout s items
      → elements (frame_at layout) s ≡ Ok items
  frames-list s items are = are-elements (frame_at layout) s items (frames-elements s items are)

  -- after frames the first refusal is that of the list
  pub frames-refusal : (front rest : List ℕ) (items : List (H × V)) (e : DeError) → AreFrames layout front items
      → 0 < length rest → frame_at layout rest ≡ Err e
      → elements (frame_at layout) (front ++ rest) ≡ Err (refusal_within (length (front ++ rest)) e)
  frames-refusal front rest items e are = elements-refusal (frame_at layout) front rest items e
      (frames-elements front items are)

  -- one more frame
  pub frames-more : (s frame : List ℕ) (items : List (H × V)) (a : H × V) → AreFrames layout s items
      → IsFrame layout frame a.0 a.1 → AreFrames layout (s ++ frame) (items ++ a ∷ [])
  frames-more s frame [] a are is = (frame, [], ap (λ (x : List ℕ). x ++ frame) are ∙ sym (append-nil frame), is, refl)
  frames-more s frame (b ∷ items) a are is = (
    are.0,
    are.1 ++ frame,
    ap (λ (x : List ℕ). x ++ frame) are.2 ∙ append_assoc are.0 are.1 frame,
    are.3,
    frames-more are.1 frame items a are.4 is,
  )
