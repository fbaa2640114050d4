-- A datagram that is read and written again.
use Rattle.std.proofs.Common.{◌≡◌, ◌≢◌, ℕ, List, [], ◌∷◌, Option, Some, None, Result, Ok, Err, IfErr, IsErrAnd, refl, sym, ap, subst, ◌∙◌}
use Rattle.std.proofs.Common.{inl, inr, length-drop, ◌-◌, ◌<◌, ◌≤◌, ◌+◌, ◌++◌, arith, length, take, drop, append_assoc, length-append}
use Rattle.std.proofs.Math.Seq.{drop-append-add, drop-append_seam, take-append_seam}
use Rattle.std.proofs.lemmas.List.{append-nil, nil_from_length, take_all}
use Rattle.std.specs.List.{All}
use Rattle.std.proofs.lemmas.List.Elements.{All-head, All-nil, All-push, All-tail}
use Rattle.std.specs.declared.io.ErrorKind.{ErrorKind}
use Rattle.std.specs.declared.io.ErrorKind.TheVariants.{UnexpectedEof}
use Rattle.neli_wire.specs.declared.errors.DeError.{DeError}
use Rattle.neli_wire.specs.declared.errors.DeError.TheVariants as de
use Rattle.neli_wire.specs.Numbers.{AreBytes}
use Rattle.neli_wire.specs.Refusals.{Refuses}
use Rattle.neli_wire.specs.Writing.{Wire, ◌+++◌, append_wire}
use Rattle.neli_reader.specs.Framed.{Nlmsghdr}
use Rattle.neli_reader.specs.NlPayload.{NlPayload}
use Rattle.neli_reader.specs.NlPayload.TheVariants as payload
use Rattle.neli_reader.specs.Agreement.{untyped_layout}
use Rattle.neli_reader.specs.Cuts.{Cut, messages_before}
use Rattle.neli_reader.specs.Headers.{Header}
use Rattle.neli_reader.specs.Messages.{message_of}
use Rattle.neli_reader.specs.Wires.{message_wire}
use Rattle.neli_reader.specs.Zeroed.{HasNoTail, untyped_wire, untyped_wires, datagram_zeroed}
use Rattle.neli_reader.specs.laws.Cuts.{cut_of-end, cut_of-fault, cut_of-message, frame_at-longer}
use Rattle.neli_wire.specs.laws.Lists.{both_written}
use Rattle.neli_wire.specs.Frames.{AreFrames, frame_at}
use Rattle.neli_wire.specs.laws.Frames.{frame_of-frame_at}
use Rattle.neli_reader.specs.laws.Messages.{layout_with-placed}
use Rattle.neli_reader.specs.laws.Zeroed.{datagram-back}
use Rattle.neli_program.specs.declared.line.Ending.{Ending}
use Rattle.neli_program.specs.declared.line.Ending.TheVariants.{Whole, Input, Short, Other, Memory}
use Rattle.neli_program.specs.Listing.{Raw, ending_by, ending_of, raw_cut}
use Rattle.neli_program.proofs.Listings.{frames_more}
use Rattle.neli_program.specs.Rewriting.{IsAgain, Rewrites, TailEnds}

-- a message as it is held, and as it is seen
abbrev pub Held : Type 0
Held = Nlmsghdr ℕ (List ℕ)

abbrev pub seen : Held → Raw
seen = message_of (λ (b : List ℕ). b)

abbrev pub held_wire : Held → Wire
held_wire = message_wire (λ (n : ℕ). n) (λ (b : List ℕ). Ok b)

pub same_wire : (h : Header ℕ) (p : NlPayload ℕ (List ℕ)) → untyped_wire (seen (record { header = h; payload = p }))
    ≡ held_wire (record { header = h; payload = p })
same_wire h (payload.Payload b) = refl
same_wire h (payload.Err e) = refl
same_wire h (payload.Ack e) = refl
same_wire h (payload.Capped e) = refl
same_wire h (payload.DumpExtAck e) = refl
same_wire h payload.Empty = refl

pub after_nothing : (w : Wire) (bytes : List ℕ) → append_wire [] w ≡ Ok bytes → w ≡ Ok bytes
after_nothing (Ok x) bytes e = e
after_nothing (Err d) bytes e = absurd cc

written_is : (a b : List ℕ) → ◌≡◌ {A = Wire} (Ok a) (Ok b) → a ≡ b
written_is a b e = cc

-- a fault ends a text with a line of its own
only_faults : (P : Ending → Type 0) → ((n : ℕ) → P (Input n)) → P Short → P Other → (f : DeError)
    → P (ending_of (Some f))
only_faults P input short other (de.InvalidInput n) = input n
only_faults P input short other (de.Msg m) = other
only_faults P input short other (de.Utf8 u) = other
only_faults P input short other de.Memory = other
only_faults P input short other (de.Io k) = io k
  where
    io : (kind : ErrorKind) → P (ending_of (Some (de.Io kind)))
    io UnexpectedEof = short
    io kind = other

-- the datagram has a fault
has_fault : (bytes : List ℕ) (ms : List Raw) (f : DeError) → raw_cut bytes ≡ (ms, Some f)
    → Rewrites bytes [] (ending_of (Some f))
has_fault bytes ms f cut =
    only_faults (λ e. e ≡ ending_of (raw_cut bytes).1 → Rewrites bytes [] e)
    (λ n is. (some, is, refl)) (λ is. (some, is, refl)) (λ is. (some, is, refl))
    f (ap ending_of (sym (ap (λ (c : Cut Raw). c.1) cut)))
  where
    some : (raw_cut bytes).1 ≢ None
    some none = let same : Some f ≡ None = sym (ap (λ (c : Cut Raw). c.1) cut) ∙ none in cc

-- a refusal, where memory is asked for in more cases
refused_so : {A : Type 0} (r : Result A DeError) (takes more : Type 0) (e : DeError) → (takes → more)
    → Refuses r takes e → Refuses r more e
refused_so r takes more de.Memory so h = so h
refused_so r takes more (de.InvalidInput n) so h = h
refused_so r takes more (de.Msg m) so h = h
refused_so r takes more (de.Utf8 u) so h = h
refused_so r takes more (de.Io k) so h = h

pub refused_wider : {A B : Type 0} (r : Result A DeError) (s : Result B DeError) (takes more : Type 0) (e : DeError)
    → (takes → more) → IsErrAnd r (λ d. d ≡ e) → Refuses s takes e → IfErr r (Refuses s more)
refused_wider (Ok x) s takes more e so is h = tt
refused_wider (Err d) s takes more e so is h =
    subst (λ (x : DeError). Refuses s more x) (sym is) (refused_so s takes more e so h)

-- where a message is read, a header is there
pub has_header : (s later : List ℕ) (m : Raw) → frame_at untyped_layout s ≡ Ok (m, later) → 16 ≤ length s
has_header s later m is =
    omega (arith, frame_at-longer untyped_layout (layout_with-placed (λ n. n) _) (omega arith) s later m is)

-- ---- message by message

-- one message more that is written
wires_more : (ms : List Raw) (m : Raw) (done written : List ℕ) → untyped_wires ms ≡ Ok done → untyped_wire m ≡ Ok written
    → untyped_wires (ms ++ m ∷ []) ≡ Ok (done ++ written)
wires_more [] m done written are is =
    let none : done ≡ [] = written_is done [] (sym are) in
    ap (λ (w : Wire). w +++ Ok []) is ∙ ap (λ (x : List ℕ). Ok x) (append-nil written
    ∙ ap (λ (x : List ℕ). x ++ written) (sym none))
wires_more (x ∷ ms) m done written are is =
    let p = both_written (untyped_wire x) (untyped_wires ms) done are in
    let later = wires_more ms m p.1 written p.3 is in
    ap (λ (w : Wire). w +++ untyped_wires (ms ++ m ∷ [])) p.2 ∙ ap (λ (w : Wire). Ok p.0 +++ w) later
    ∙ ap (λ (x : List ℕ). Ok x) (sym (append_assoc p.0 p.1 written) ∙ ap (λ (x : List ℕ). x ++ written) (sym p.4))

-- the datagram is messages that were written over themselves, and then what is left
pub record IsZeroed (bytes now : List ℕ) (at : ℕ) : Type 0 where
  pub messages : List Raw
  pub front : List ℕ
  pub done : List ℕ
  pub left : List ℕ
  pub parts : bytes ≡ front ++ left
  pub frames : AreFrames untyped_layout front messages
  pub so_far : raw_cut bytes ≡ messages_before messages (raw_cut left)
  pub wires : untyped_wires messages ≡ Ok done
  pub tails : All HasNoTail messages
  pub same : length done ≡ length front
  pub held : now ≡ done ++ left
  pub place : at ≡ length done

pub zeroed_none : (bytes : List ℕ) → IsZeroed bytes bytes 0
zeroed_none bytes = record {
  messages = [];
  front = [];
  done = [];
  left = bytes;
  parts = refl;
  frames = refl;
  so_far = refl;
  wires = refl;
  tails = All-nil HasNoTail;
  same = refl;
  held = refl;
  place = refl;
}

left_is : (bytes now : List ℕ) (at : ℕ) (is : IsZeroed bytes now at) → drop at now ≡ is.left
left_is bytes now at is = rw (is.held, is.place) (drop-append_seam is.done is.left)

done_is : (bytes now : List ℕ) (at : ℕ) (is : IsZeroed bytes now at) → take at now ≡ is.done
done_is bytes now at is = rw (is.held, is.place) (take-append_seam is.done is.left)

pub zeroed_more : (bytes now : List ℕ) (at : ℕ) (written : List ℕ) → IsZeroed bytes now at
    → IsAgain (drop at now) (Some written)
    → IsZeroed bytes (take at now ++ (written ++ drop (at + length written) now)) (at + length written)
zeroed_more bytes now at written is again =
    let m = again.0 in
    let later = again.1 in
    let is_left = left_is bytes now at is in
    let next : frame_at untyped_layout is.left ≡ Ok (m, later) =
    ap (frame_at untyped_layout) (sym is_left) ∙ again.2 in
    let one = frame_of-frame_at untyped_layout (layout_with-placed (λ n. n) _) is.left later m.0 m.1 next in
    let size : length written ≡ length one.0 =
    omega (arith, again.3.2, ap length is_left, ap length one.1, length-append one.0 later) in
    let rest : drop (at + length written) now ≡ later =
    rw (is.held, is.place) (drop-append-add is.done is.left (length written)
    ∙ ap (λ n. drop n is.left) size ∙ ap (drop (length one.0)) one.1 ∙ drop-append_seam one.0 later) in
    record {
      messages = is.messages ++ m ∷ [];
      front = is.front ++ one.0;
      done = is.done ++ written;
      left = later;
      parts = is.parts ∙ ap (λ (x : List ℕ). is.front ++ x) one.1 ∙ sym (append_assoc is.front one.0 later);
      frames = frames_more is.front one.0 is.messages m is.frames one.2;
      so_far = is.so_far ∙ ap (messages_before is.messages) (cut_of-message untyped_layout
          (layout_with-placed (λ n. n) _) (omega arith) is.left later m next)
          ∙ ap (λ (xs : List Raw). (xs, (raw_cut later).1)) (sym (append_assoc is.messages (m ∷ []) (raw_cut later).0));
      wires = wires_more is.messages m is.done written is.wires again.3.1;
      tails = All-push HasNoTail is.messages m is.tails again.3.0;
      same = omega (arith, is.same, size, length-append is.done written, length-append is.front one.0);
      held = ap (λ (x : List ℕ). x ++ (written ++ drop (at + length written) now)) (done_is bytes now at is)
          ∙ ap (λ (x : List ℕ). is.done ++ (written ++ x)) rest ∙ sym (append_assoc is.done written later);
      place = omega (arith, is.place, length-append is.done written);
    }

-- nothing is left
pub zeroed_all : (bytes now : List ℕ) (at : ℕ) → AreBytes bytes → IsZeroed bytes now at → length now ≤ at
    → Rewrites bytes now Whole
zeroed_all bytes now at small is all =
    let none : is.left ≡ [] = nil_from_length is.left
    (omega (arith, all, is.place, ap length is.held, length-append is.done is.left)) in
    let cut : raw_cut bytes ≡ (is.messages, None) = is.so_far
    ∙ ap (messages_before is.messages) (ap raw_cut none ∙ cut_of-end untyped_layout (layout_with-placed (λ n. n) _) (omega arith))
    ∙ ap (λ (xs : List Raw). (xs, None)) (append-nil is.messages) in
    let whole : bytes ≡ is.front = is.parts ∙ ap (λ (x : List ℕ). is.front ++ x) none ∙ append-nil is.front in
    let law : untyped_wires is.messages ≡ Ok (datagram_zeroed bytes) =
    datagram-back bytes is.messages small (subst (λ (x : List ℕ). AreFrames untyped_layout x is.messages) (sym whole)
    is.frames) is.tails in (
      ap (λ (c : Cut Raw). c.1) cut,
      subst (λ (c : Cut Raw). All HasNoTail c.0) (sym cut) is.tails,
      is.held ∙ ap (λ (x : List ℕ). is.done ++ x) none ∙ append-nil is.done
          ∙ written_is is.done (datagram_zeroed bytes) (sym is.wires ∙ law),
    )

-- what the whole datagram is cut into
whole_cut : (bytes now : List ℕ) (at : ℕ) (is : IsZeroed bytes now at)
    → raw_cut bytes ≡ messages_before is.messages (raw_cut (drop at now))
whole_cut bytes now at is = is.so_far ∙ ap (λ (x : List ℕ). messages_before is.messages (raw_cut x)) (sym (left_is bytes now at is))

-- the bytes left are a part of the datagram
left_within : (bytes now : List ℕ) (at : ℕ) → IsZeroed bytes now at → 16 ≤ length (drop at now) → 16 ≤ length bytes
left_within bytes now at is long =
    omega (arith, long, ap length (left_is bytes now at is), ap length is.parts, length-append is.front is.left)

fault_ends : (bytes now : List ℕ) (at : ℕ) (f : DeError) → IsZeroed bytes now at → (raw_cut (drop at now)).1 ≡ Some f
    → Rewrites bytes [] (ending_of (Some f))
fault_ends bytes now at f is fault =
    has_fault bytes (is.messages ++ (raw_cut (drop at now)).0) f (whole_cut bytes now at is
    ∙ ap (λ (x : Option DeError). (is.messages ++ (raw_cut (drop at now)).0, x)) fault)

tail_found : (ms later : List Raw) (m : Raw) → All HasNoTail (ms ++ m ∷ later) → HasNoTail m
tail_found [] later m each = All-head HasNoTail m later each
tail_found (x ∷ ms) later m each = tail_found ms later m (All-tail HasNoTail x (ms ++ m ∷ later) each)

-- a message has a tail
pub zeroed_tail : (bytes now : List ℕ) (at : ℕ) (written : List ℕ) (e : Ending) → IsZeroed bytes now at
    → IsAgain (drop at now) None → TailEnds (drop at now) written e → Rewrites bytes written e
zeroed_tail bytes now at written e is again (none, inl memory) =
    rw (none, memory) (left_within bytes now at is (has_header (drop at now) again.1 again.0 again.2), refl)
zeroed_tail bytes now at written e is again (none, inr (inl (whole, tail))) =
    let cut = whole_cut bytes now at is in
    let first = cut_of-message untyped_layout (layout_with-placed (λ n. n) _) (omega arith) (drop at now) again.1 again.0
    again.2 in
    rw (none, tail) (
      ap (λ (c : Cut Raw). c.1) cut ∙ whole,
      λ (each : All HasNoTail (raw_cut bytes).0). again.3 (tail_found is.messages (raw_cut again.1).0 again.0
          (subst (λ (c : Cut Raw). All HasNoTail c.0) (cut ∙ ap (messages_before is.messages) first) each)),
      refl,
    )
zeroed_tail bytes now at written e is again (none, inr (inr (f, fault, ends))) =
    rw (none, ends) (fault_ends bytes now at f is fault)

-- a message is refused
pub zeroed_error : (bytes now : List ℕ) (at : ℕ) (e : DeError) → IsZeroed bytes now at → at < length now
    → Refuses (frame_at untyped_layout (drop at now)) (16 ≤ length (drop at now)) e → Rewrites bytes [] (ending_by e)
zeroed_error bytes now at e is more refused = by e refused
  where
    some : drop at now ≢ []
    some none = absurd (omega (arith, more, ap length none, length-drop at now))

    fault : (f : DeError) → frame_at untyped_layout (drop at now) ≡ Err f → Rewrites bytes [] (ending_of (Some f))
    fault f h = fault_ends bytes now at f is (ap (λ (c : Cut Raw). c.1)
        (cut_of-fault untyped_layout (layout_with-placed (λ n. n) _) (omega arith) (drop at now) f some h))

    by : (d : DeError) → Refuses (frame_at untyped_layout (drop at now)) (16 ≤ length (drop at now)) d
        → Rewrites bytes [] (ending_by d)
    by de.Memory h = (left_within bytes now at is h, refl)
    by (de.InvalidInput n) h = fault (de.InvalidInput n) h
    by (de.Msg m) h = fault (de.Msg m) h
    by (de.Utf8 u) h = fault (de.Utf8 u) h
    by (de.Io k) h = fault (de.Io k) h

-- the bytes from a place on, as they are lent
pub rest_is : (xs : List ℕ) (at : ℕ) → take (length xs - at) (drop at xs) ≡ drop at xs
rest_is xs at = take_all (length xs - at) (drop at xs) (omega (arith, length-drop at xs))
