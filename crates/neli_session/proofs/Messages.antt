-- Messages at the front of bytes.
use Rattle.std.proofs.Common.{ℕ, ◌+◌, ◌-◌, ◌<◌, ◌≡◌, ◌≤◌, List, [], ◌∷◌, ◌++◌, length, drop, Some, None, Result, Ok, Err, refl, sym}
use Rattle.std.proofs.Common.{ap, ◌∙◌, arith, length-append, length-drop, take, append-nil}
use Rattle.std.proofs.Math.Seq.{drop-append_seam, take-append_seam}
use Rattle.std.proofs.lemmas.List.{append_cancel_right, length-take-le, take-append-drop}
use Rattle.neli_wire.specs.Place.{Place, whole}
use Rattle.neli_wire.specs.declared.errors.DeError.{DeError}
use Rattle.neli_wire.specs.Frames.{IsFrame, Layout, frame_at}
use Rattle.neli_wire.specs.laws.Frames.{frame_at-frame, frame_of-frame_at}
use Rattle.neli_reader.specs.Cuts.{Cut, message_before}
use Rattle.neli_reader.specs.laws.Cuts.{cut_of-end, cut_of-fault, cut_of-message, frame-long}
use Rattle.neli_reader.specs.laws.Messages.{layout_with-placed}
use Rattle.neli_lent.specs.Messages.{Lent, lent_message, messages_in}
use Rattle.neli_reader.specs.Headers.{Header}
use Rattle.neli_session.specs.Messages.{IsMessage, IsWhole, messages_of}

abbrev same : ℕ → ℕ
same n = n

append-assoc : (xs ys zs : List ℕ) → (xs ++ ys) ++ zs ≡ xs ++ (ys ++ zs)
append-assoc [] ys zs = refl
append-assoc (x ∷ xs) ys zs = ap (λ (ws : List ℕ). x ∷ ws) (append-assoc xs ys zs)

-- a message stands first
pub message-first : (s r : List ℕ) (m : Lent ℕ) → frame_at (lent_message same) s ≡ Ok (m, r)
    → messages_in same s ≡ message_before m (messages_in same r)
unfolding messages_in
message-first s r m at = cut_of-message (lent_message same) (layout_with-placed same _) (omega arith) s r m at

-- no bytes have no messages
pub none-there : messages_in {K = ℕ} same [] ≡ ([], None)
unfolding messages_in
none-there = cut_of-end (lent_message same) (layout_with-placed same _) (omega arith)

-- whole messages whose front is refused are none
pub refused-none : (s : List ℕ) (e : DeError) → frame_at (lent_message same) s ≡ Err e → IsWhole s → s ≡ []
unfolding messages_in
refused-none [] e at whole = refl
refused-none (b ∷ s) e at whole =
    let f = cut_of-fault (lent_message same) (layout_with-placed same _) (omega arith) (b ∷ s) e (λ x. cc) at in
    let g : Some e ≡ None = sym (ap (λ (c : Cut (Lent ℕ)). c.1) f) ∙ whole in
    absurd cc

-- a cursor at a place of bytes
pub record IsAt (bytes : List ℕ) (place : ℕ) (first at : Place) : Type 0 where
  pub empty : first.before ≡ []
  pub rest_all : first.rest ≡ bytes
  pub before : at.before ≡ take place (whole first)
  pub rest : at.rest ≡ drop place (whole first)

whole-is : (bytes : List ℕ) (place : ℕ) (first at : Place) → IsAt bytes place first at → whole first ≡ bytes
whole-is bytes place first at is = ap (λ (x : List ℕ). x ++ first.rest) is.empty ∙ is.rest_all

pub rest-is : (bytes : List ℕ) (place : ℕ) (first at : Place) → IsAt bytes place first at → at.rest ≡ drop place bytes
rest-is bytes place first at is = is.rest ∙ ap (λ (x : List ℕ). drop place x) (whole-is bytes place first at is)

-- the message at a place, and those after it: a cursor at that place moved past it
pub message-there : (bytes : List ℕ) (place end : ℕ) (first at new : Place) (m : Lent ℕ) → IsAt bytes place first at
    → frame_at (lent_message same) at.rest ≡ Ok (m, new.rest) → whole new ≡ whole at → end ≡ length new.before
    → messages_in same (drop place bytes) ≡ message_before m (messages_in same (drop end bytes))
message-there bytes place end first at new m here is moved ends =
    let all : new.before ++ new.rest ≡ bytes = moved ∙ ap (λ (x : List ℕ). x ++ at.rest) here.before
    ∙ ap (λ (x : List ℕ). take place (whole first) ++ x) here.rest ∙ take-append-drop place (whole first)
    ∙ whole-is bytes place first at here in
    let later : drop end bytes ≡ new.rest = ap (λ (n : ℕ). drop n bytes) ends
    ∙ ap (λ (x : List ℕ). drop (length new.before) x) (sym all) ∙ drop-append_seam new.before new.rest in
    ap (λ (x : List ℕ). messages_in same x) (sym (rest-is bytes place first at here))
    ∙ message-first at.rest new.rest m is
    ∙ ap (λ (x : List ℕ). message_before m (messages_in same x)) (sym later)

-- and its end is within the bytes
pub ends-within : (bytes : List ℕ) (place end : ℕ) (first at new : Place) → IsAt bytes place first at
    → whole new ≡ whole at → end ≡ length new.before → end ≤ length bytes
ends-within bytes place end first at new here moved ends =
    let all : new.before ++ new.rest ≡ bytes = moved ∙ ap (λ (x : List ℕ). x ++ at.rest) here.before
    ∙ ap (λ (x : List ℕ). take place (whole first) ++ x) here.rest ∙ take-append-drop place (whole first)
    ∙ whole-is bytes place first at here in
    omega (arith, ends, ap length all, length-append new.before new.rest)

-- no message is at a place whose bytes are refused
pub none-at : (bytes : List ℕ) (place : ℕ) (first at : Place) (e : DeError) → IsAt bytes place first at
    → frame_at (lent_message same) at.rest ≡ Err e → IsWhole (drop place bytes) → messages_of (drop place bytes) ≡ []
none-at bytes place first at e here is good =
    let same_rest = rest-is bytes place first at here in
    let refused : frame_at (lent_message same) (drop place bytes) ≡ Err e =
    ap (λ (x : List ℕ). frame_at (lent_message same) x) (sym same_rest) ∙ is in
    ap messages_of (refused-none (drop place bytes) e refused good) ∙ ap (λ (c : Cut (Lent ℕ)). c.0) none-there

-- ---- the bytes of a message

-- the bytes from a place to an end are one message
pub record IsSpanAt (bytes : List ℕ) (place end : ℕ) (m : Lent ℕ) : Type 0 where
  pub span : List ℕ
  pub ordered : place ≤ end
  pub taken : take (end - place) (drop place bytes) ≡ span
  pub message : IsMessage span m
  pub split : drop place bytes ≡ span ++ drop end bytes
  pub long : 16 ≤ length span
  pub ends : end ≡ place + length span
  pub within : end ≤ length bytes

abbrev layout : Layout (Header ℕ) (List ℕ)
layout = lent_message same

frame-message : (frame : List ℕ) (m : Lent ℕ) → IsFrame layout frame m.0 m.1 → IsMessage frame m
unfolding messages_in
frame-message frame m is =
    let placed = layout_with-placed same _ in
    let read : frame_at layout frame ≡ Ok (m, []) = ap (λ (x : List ℕ). frame_at layout x) (sym (append-nil frame))
    ∙ frame_at-frame layout placed frame [] m.0 m.1 is in
    message-first frame [] m read ∙ ap (λ (c : Cut (Lent ℕ)). message_before m c) none-there

pub span-there : (bytes : List ℕ) (place end : ℕ) (first at new : Place) (m : Lent ℕ) → place ≤ length bytes
    → IsAt bytes place first at → frame_at layout at.rest ≡ Ok (m, new.rest) → whole new ≡ whole at
    → end ≡ length new.before → IsSpanAt bytes place end m
span-there bytes place end first at new m low here is moved ends =
    let placed = layout_with-placed same _ in
    let f = frame_of-frame_at layout placed at.rest new.rest m.0 m.1 is in
    let frame : List ℕ = f.0 in
    let all_first : whole first ≡ bytes = whole-is bytes place first at here in
    let before : at.before ≡ take place bytes = here.before ∙ ap (λ (x : List ℕ). take place x) all_first in
    let rest : at.rest ≡ drop place bytes = rest-is bytes place first at here in
    let both : new.before ++ new.rest ≡ (at.before ++ frame) ++ new.rest = moved
    ∙ ap (λ (x : List ℕ). at.before ++ x) f.1 ∙ sym (append-assoc at.before frame new.rest) in
    let front : new.before ≡ at.before ++ frame = append_cancel_right new.before (at.before ++ frame) new.rest both in
    let len : length at.before ≡ place = ap length before ∙ length-take-le place bytes low in
    let count : end ≡ place + length frame = omega (arith, ends, ap length front, length-append at.before frame, len) in
    let all : new.before ++ new.rest ≡ bytes = moved ∙ ap (λ (x : List ℕ). x ++ at.rest) before
    ∙ ap (λ (x : List ℕ). take place bytes ++ x) rest ∙ take-append-drop place bytes in
    let later : drop end bytes ≡ new.rest = ap (λ (n : ℕ). drop n bytes) ends
    ∙ ap (λ (x : List ℕ). drop (length new.before) x) (sym all) ∙ drop-append_seam new.before new.rest in
    let split : drop place bytes ≡ frame ++ drop end bytes = sym rest ∙ f.1
    ∙ ap (λ (x : List ℕ). frame ++ x) (sym later) in
    let much : end - place ≡ length frame = omega (arith, count) in
    record {
      span = frame;
      ordered = omega (arith, count);
      taken = ap (λ (n : ℕ). take n (drop place bytes)) much ∙ ap (λ (x : List ℕ). take (length frame) x) split
          ∙ take-append_seam frame (drop end bytes);
      message = frame-message frame m f.2;
      split = split;
      long = frame-long layout placed (omega arith) frame m f.2;
      ends = count;
      within = omega (arith, ends, ap length all, length-append new.before new.rest);
    }

-- no message, and its fault, at a place that is refused
pub fault-at : (bytes : List ℕ) (place : ℕ) (first at : Place) (e : DeError) → place < length bytes
    → IsAt bytes place first at → frame_at layout at.rest ≡ Err e
    → messages_in same (drop place bytes) ≡ ([], Some e)
unfolding messages_in
fault-at bytes place first at e more here is =
    let same_rest = rest-is bytes place first at here in
    let refused : frame_at layout (drop place bytes) ≡ Err e = ap (λ (x : List ℕ). frame_at layout x) (sym same_rest)
    ∙ is in
    cut_of-fault layout (layout_with-placed same _) (omega arith) (drop place bytes) e
    (λ none. absurd (let l = length-drop place bytes in let z : length (drop place bytes) ≡ 0 = ap length none in
    omega (arith, l, z, more))) refused

-- ---- the end of whole messages

empty : (s : List ℕ) → length s ≡ 0 → s ≡ []
empty [] e = refl
empty (b ∷ s) e = cc

-- whole messages that are none are no bytes
empty-whole : (s : List ℕ) → IsWhole s → messages_of s ≡ [] → s ≡ []
empty-whole s whole none = go (frame_at layout s) refl
  where
    go : (r : Result (Lent ℕ × List ℕ) DeError) → frame_at layout s ≡ r → s ≡ []
    go (Err e) at = refused-none s e at whole
    go (Ok p) at =
        let first : messages_of s ≡ p.0 ∷ messages_of p.1 = ap (λ (c : Cut (Lent ℕ)). c.0) (message-first s p.1 p.0 at) in
        let wrong : [] ≡ p.0 ∷ messages_of p.1 = sym none ∙ first in
        absurd cc

pub at-end : (bytes : List ℕ) (place : ℕ) → place ≡ length bytes → messages_of (drop place bytes) ≡ []
at-end bytes place end =
    let none : drop place bytes ≡ [] = empty (drop place bytes) (omega (arith, length-drop place bytes, end)) in
    ap messages_of none ∙ ap (λ (c : Cut (Lent ℕ)). c.0) none-there

pub end-at : (bytes : List ℕ) (place : ℕ) → place ≤ length bytes → IsWhole (drop place bytes)
    → messages_of (drop place bytes) ≡ [] → place ≡ length bytes
end-at bytes place low whole none =
    let gone : length (drop place bytes) ≡ 0 = ap length (empty-whole (drop place bytes) whole none) in
    omega (arith, length-drop place bytes, gone, low)

-- the bytes of a message at a place
pub span-front : (bytes span : List ℕ) (place : ℕ) → drop place bytes ≡ span ++ drop (place + length span) bytes
    → take (length span) (drop place bytes) ≡ span
span-front bytes span place split =
    ap (λ (xs : List ℕ). take (length span) xs) split ∙ take-append_seam span (drop (place + length span) bytes)
