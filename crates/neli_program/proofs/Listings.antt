-- A listing that is made message by message.
use Rattle.std.proofs.Common.{◌≡◌, ◌≢◌, inl, inr, ℕ, List, [], ◌∷◌, ◌++◌, length, take, codes, false, nat_eq, ◌<◌}
use Rattle.std.proofs.Common.{Option, Some, None, Result, Ok, Err, IfErr, IsErrAnd, refl, sym, ap, subst, ◌∙◌}
use Rattle.std.proofs.Common.{append_assoc, arith, length-append, ltb, drop, ◌-◌}
use Rattle.std.proofs.lemmas.Bool.{ltb-false}
use Rattle.std.proofs.lemmas.List.{take_at, append-nil}
use Rattle.std.proofs.lemmas.List.Concat.{flat_map-append}
use Rattle.std.specs.Io.KnownBytes.{Appends}
use Rattle.neli_wire.specs.Bytes.{Reading}
use Rattle.neli_wire.specs.Bytes.{short}
use Rattle.neli_wire.specs.Frames.{AreFrames, IsFrame, frame_at}
use Rattle.neli_wire.specs.Sizes.{align}
use Rattle.neli_wire.specs.laws.Frames.{frame_of-frame_at}
use Rattle.neli_wire.specs.laws.Reading.{guard_ok, ok_is}
use Rattle.neli_wire.specs.Reading.{◌>>=◌}
use Rattle.neli_wire.specs.Refusals.{Refuses}
use Rattle.neli_reader.specs.Headers.{Header, header_in}
use Rattle.neli_reader.specs.NlPayload.TheVariants as payload
use Rattle.neli_lent.specs.Messages.{Lent, as_owned, as_owned_takes_memory, lent_message}
use Rattle.neli_lent.specs.laws.Messages.{owned-read}
use Rattle.neli_program.proofs.Streams.{appends_more}
use Rattle.neli_program.specs.declared.line.Line.{Line}
use Rattle.neli_wire.specs.declared.errors.DeError.{DeError}
use Rattle.neli_wire.specs.declared.errors.DeError.TheVariants as de
use Rattle.std.specs.declared.io.ErrorKind.{ErrorKind}
use Rattle.std.specs.declared.io.ErrorKind.TheVariants.{UnexpectedEof}
use Rattle.neli_reader.specs.Agreement.{untyped_layout}
use Rattle.neli_reader.specs.Cuts.{Cut, Cuts, message_before, messages_before}
use Rattle.neli_reader.specs.laws.Messages.{layout_with-placed}
use Rattle.neli_reader.specs.laws.Cuts.{cut_of-Cuts, cut_of-end, cut_of-fault, cut_of-message, frame_at-longer}
use Rattle.neli_program.specs.declared.line.Ending.{Ending}
use Rattle.neli_program.specs.declared.line.Ending.TheVariants.{Whole, Input, Short, Other, Tail, Memory}
use Rattle.neli_program.specs.Listing.{BeginsWith, GoesOnAfter, IsLineOf, Lists, Raw, ending_by, ending_of, line_of}
use Rattle.neli_program.specs.Listing.{BeginsWithBody, line_takes_memory, line_text, lines_of, raw_cut}
use Rattle.neli_program.specs.Listing.{reading_takes_memory}

-- ---- what is left of a datagram

end_at : (s : List ℕ) → s ≡ [] → raw_cut s ≡ ([], None)
end_at s none = rw none (cut_of-end untyped_layout (layout_with-placed (λ n. n) _) (omega arith))

message_at : (s later : List ℕ) (m : Raw) → frame_at untyped_layout s ≡ Ok (m, later)
    → raw_cut s ≡ message_before m (raw_cut later)
message_at = cut_of-message untyped_layout (layout_with-placed (λ n. n) _) (omega arith)

fault_at : (s : List ℕ) (e : DeError) → s ≢ [] → frame_at untyped_layout s ≡ Err e → raw_cut s ≡ ([], Some e)
fault_at = cut_of-fault untyped_layout (layout_with-placed (λ n. n) _) (omega arith)

-- ---- lines so far

-- one frame more
pub frames_more : (front frame : List ℕ) (ms : List Raw) (m : Raw) → AreFrames untyped_layout front ms
    → IsFrame untyped_layout frame m.0 m.1 → AreFrames untyped_layout (front ++ frame) (ms ++ m ∷ [])
frames_more front frame [] m are is =
    (frame, [], ap (λ (x : List ℕ). x ++ frame) are ∙ sym (append-nil frame), is, refl)
frames_more front frame (a ∷ ms) m are is = (
  are.0,
  are.1 ++ frame,
  ap (λ (x : List ℕ). x ++ frame) are.2 ∙ append_assoc are.0 are.1 frame,
  are.3,
  frames_more are.1 frame ms m are.4 is,
)

-- the datagram is messages whose lines are made, and then what is left
pub record IsListed (bytes lines left : List ℕ) : Type 0 where
  pub messages : List Raw
  pub front : List ℕ
  pub parts : bytes ≡ front ++ left
  pub frames : AreFrames untyped_layout front messages
  pub so_far : raw_cut bytes ≡ messages_before messages (raw_cut left)
  pub made : lines ≡ lines_of messages

one_line : (m : Raw) → lines_of (m ∷ []) ≡ line_of m ++ codes "\n"
one_line m = append-nil (line_of m ++ codes "\n")

pub listed_more : (bytes lines left later line : List ℕ) (m : Raw) → IsListed bytes lines left
    → frame_at untyped_layout left ≡ Ok (m, later) → line ≡ line_of m ++ codes "\n"
    → IsListed bytes (lines ++ line) later
listed_more bytes lines left later line m is next ended =
    let one = frame_of-frame_at untyped_layout (layout_with-placed (λ n. n) _) left later m.0 m.1 next in record {
      messages = is.messages ++ m ∷ [];
      front = is.front ++ one.0;
      parts = is.parts ∙ ap (λ (x : List ℕ). is.front ++ x) one.1 ∙ sym (append_assoc is.front one.0 later);
      frames = frames_more is.front one.0 is.messages m is.frames one.2;
      so_far = is.so_far ∙ ap (messages_before is.messages) (message_at left later m next)
          ∙ ap (λ (xs : List Raw). (xs, (raw_cut later).1)) (sym (append_assoc is.messages (m ∷ []) (raw_cut later).0));
      made = ap (λ (xs : List ℕ). xs ++ line) is.made ∙ ap (λ (xs : List ℕ). lines_of is.messages ++ xs) (ended
          ∙ sym (one_line m)) ∙ sym (flat_map-append (λ (x : Raw). line_of x ++ codes "\n") is.messages (m ∷ []));
    }

whole_cut : (bytes lines left : List ℕ) (f : Option DeError) (is : IsListed bytes lines left) → raw_cut left ≡ ([], f)
    → raw_cut bytes ≡ (is.messages, f)
whole_cut bytes lines left f is end =
    is.so_far ∙ ap (messages_before is.messages) end ∙ ap (λ (xs : List Raw). (xs, f)) (append-nil is.messages)

lines_are : (bytes lines left : List ℕ) (f : Option DeError) → IsListed bytes lines left → raw_cut left ≡ ([], f)
    → lines ≡ lines_of (raw_cut bytes).0
lines_are bytes lines left f is end =
    is.made ∙ sym (ap (λ (c : Cut Raw). lines_of c.0) (whole_cut bytes lines left f is end))

fault_is : (bytes lines left : List ℕ) (f : Option DeError) → IsListed bytes lines left → raw_cut left ≡ ([], f)
    → ending_of f ≡ ending_of (raw_cut bytes).1
fault_is bytes lines left f is end =
    sym (ap (λ (c : Cut Raw). ending_of c.1) (whole_cut bytes lines left f is end))

lists : (bytes lines : List ℕ) (e : Ending) → e ≢ Memory
    → (lines ≡ lines_of (raw_cut bytes).0) × (e ≡ ending_of (raw_cut bytes).1) → Lists bytes lines e
lists bytes lines Whole other h = h
lists bytes lines (Input n) other h = h
lists bytes lines Short other h = h
lists bytes lines Other other h = h
lists bytes lines Tail other h = h
lists bytes lines Memory other h = absurd (other refl)

pub listed_end : (bytes lines left : List ℕ) → IsListed bytes lines left → raw_cut left ≡ ([], None)
    → Lists bytes lines Whole
listed_end bytes lines left is end = (lines_are bytes lines left None is end, fault_is bytes lines left None is end)

pub listed_fault : (bytes lines left : List ℕ) (e : DeError) → IsListed bytes lines left → raw_cut left ≡ ([], Some e)
    → ending_of (Some e) ≢ Memory → Lists bytes lines (ending_of (Some e))
listed_fault bytes lines left e is end other =
    lists bytes lines (ending_of (Some e)) other (
      lines_are bytes lines left (Some e) is end,
      fault_is bytes lines left (Some e) is end,
    )

-- what is not empty has a message or a fault
not_done : (b : List ℕ) (ms : List Raw) (f : Option DeError) → Cuts untyped_layout b ms f → b ≢ []
    → GoesOnAfter 0 (ms, f)
not_done b (m ∷ ms) f cuts some = inl (omega (arith))
not_done b [] (Some e) cuts some = inr (λ h. cc)
not_done b [] None cuts some = absurd (some (cuts.2 ∙ rw (cuts.3, cuts.4) refl))

goes_on : (ms : List Raw) (c : Cut Raw) → GoesOnAfter 0 c → GoesOnAfter (length ms) (messages_before ms c)
goes_on ms c (inl more) = inl (omega (arith, more, length-append ms c.0))
goes_on ms c (inr fault) = inr fault

pub listed_memory : (bytes lines left : List ℕ) → IsListed bytes lines left → left ≢ [] → line_takes_memory left
    → Lists bytes lines Memory
listed_memory bytes lines left is some takes =
    let front : take (length is.messages) (raw_cut bytes).0 ≡ is.messages =
    ap (λ (c : Cut Raw). take (length is.messages) c.0) is.so_far
    ∙ take_at is.messages (raw_cut left).0 (length is.messages) refl in
    let later = not_done left (raw_cut left).0 (raw_cut left).1
    (cut_of-Cuts untyped_layout (layout_with-placed (λ n. n) _) (omega arith) left) some in (
      length is.messages,
      subst (GoesOnAfter (length is.messages)) (sym is.so_far)
          (goes_on is.messages (raw_cut left) later),
      (is.front, left, is.parts, subst (AreFrames untyped_layout is.front) (sym front) is.frames, takes),
      is.made ∙ sym (ap lines_of front),
    )

named : (e : DeError) → ending_of (Some e) ≢ Memory
named (de.InvalidInput n) h = cc
named (de.Msg m) h = cc
named (de.Utf8 u) h = cc
named de.Memory h = cc
named (de.Io k) h = io k h
  where
    io : (kind : ErrorKind) → ending_of (Some (de.Io kind)) ≢ Memory
    io UnexpectedEof h = cc
    io kind h = cc

-- a line is refused with this
pub listed_error : (bytes lines left : List ℕ) (e : DeError) → IsListed bytes lines left → left ≢ []
    → Refuses (frame_at untyped_layout left) (line_takes_memory left) e → Lists bytes lines (ending_by e)
listed_error bytes lines left de.Memory is some refused = listed_memory bytes lines left is some refused
listed_error bytes lines left (de.InvalidInput n) is some refused =
    listed_fault bytes lines left (de.InvalidInput n) is (fault_at left (de.InvalidInput n) some refused)
    (named (de.InvalidInput n))
listed_error bytes lines left (de.Msg m) is some refused =
    listed_fault bytes lines left (de.Msg m) is (fault_at left (de.Msg m) some refused) (named (de.Msg m))
listed_error bytes lines left (de.Utf8 u) is some refused =
    listed_fault bytes lines left (de.Utf8 u) is (fault_at left (de.Utf8 u) some refused) (named (de.Utf8 u))
listed_error bytes lines left (de.Io k) is some refused =
    listed_fault bytes lines left (de.Io k) is (fault_at left (de.Io k) some refused) (named (de.Io k))

-- ---- a line that is read

-- a message that is neither an error nor the end of a dump carries a body
pub body_line : (h : Header ℕ) (bytes : List ℕ) → nat_eq h.message_type 2 ≡ false → nat_eq h.message_type 3 ≡ false
    → as_owned (λ n. n) (λ n. n) (λ b. Ok b) (h, bytes) ≡ Ok (h, payload.Payload bytes)
body_line h bytes error done = rw (error, done) refl

abbrev then_left : Result Raw DeError → List ℕ → Reading Raw
then_left r left = r >>= λ m. Ok (m, left)

-- where it is lent, its line is that of the message that is read
pub lent_begins : (s left : List ℕ) (m : Lent ℕ) (line : Line) → frame_at (lent_message (λ n. n)) s ≡ Ok (m, left)
    → IsLineOf (as_owned (λ n. n) (λ n. n) (λ b. Ok b) m) line → BeginsWith s line left
lent_begins s left m line lent is = (
  is.0,
  owned-read (λ n. n) (λ n. n) (λ b. Ok b) s left m lent
      ∙ ap (λ (r : Result Raw DeError). then_left r left) is.1,
  is.2,
)

-- where a lent message takes memory as an owned one, so does reading it
lent_takes : (s left : List ℕ) (m : Lent ℕ) → frame_at (lent_message (λ n. n)) s ≡ Ok (m, left)
    → as_owned_takes_memory (λ n. n) (λ b. Ok b) (λ b. 0 < length b) m → reading_takes_memory s
unfolding frame_at
lent_takes s left m lent takes =
    let h : Header ℕ = header_in (λ n. n) s in
    let g1 = guard_ok (ltb (length s) 16) short _ (m, left) lent in
    let g2 = guard_ok (ltb h.len 16) (de.InvalidInput h.len) _ (m, left) g1.1 in
    let g3 = guard_ok (ltb (length s) h.len) (de.InvalidInput (h.len - 16)) _ (m, left) g2.1 in
    let g4 = guard_ok (ltb (length s) (align h.len)) short _ (m, left) g3.1 in
    let said : Lent ℕ = (h, take (h.len - 16) (drop 16 s)) in
    let both = ok_is (said, drop (align h.len) s) (m, left) g4.1 in
    let same : said ≡ m = ap (λ (p : Lent ℕ × List ℕ). p.0) both in (
      ltb-false _ _ g1.0,
      ltb-false _ _ g2.0,
      ltb-false _ _ g3.0,
      subst (as_owned_takes_memory (λ n. n) (λ b. Ok b) (λ b. 0 < length b)) (sym same) takes,
    )

refused_then : (r : Result Raw DeError) (left : List ℕ) (takes more : Type 0) (e : DeError) → (takes → more)
    → Refuses r takes e → Refuses (then_left r left) more e
refused_then r left takes more de.Memory so h = so h
refused_then r left takes more (de.InvalidInput n) so h = ap (λ (x : Result Raw DeError). then_left x left) h
refused_then r left takes more (de.Msg m) so h = ap (λ (x : Result Raw DeError). then_left x left) h
refused_then r left takes more (de.Utf8 u) so h = ap (λ (x : Result Raw DeError). then_left x left) h
refused_then r left takes more (de.Io k) so h = ap (λ (x : Result Raw DeError). then_left x left) h

-- and so is its refusal
pub lent_refused : {A : Type 0} (r : Result A DeError) (s left : List ℕ) (m : Lent ℕ) (e : DeError)
    → IsErrAnd r (λ d. d ≡ e) → frame_at (lent_message (λ n. n)) s ≡ Ok (m, left)
    → Refuses (as_owned (λ n. n) (λ n. n) (λ b. Ok b) m)
    (as_owned_takes_memory (λ n. n) (λ b. Ok b) (λ b. 0 < length b) m) e
    → IfErr r (Refuses (frame_at untyped_layout s) (reading_takes_memory s))
lent_refused (Ok x) s left m e is lent h = tt
lent_refused (Err d) s left m e is lent h =
    let here = subst (λ (x : Reading Raw). Refuses x (reading_takes_memory s) e)
    (sym (owned-read (λ n. n) (λ n. n) (λ b. Ok b) s left m lent))
    (refused_then (as_owned (λ n. n) (λ n. n) (λ b. Ok b) m) left _ _ e (lent_takes s left m lent) h) in
    subst (λ (x : DeError). Refuses (frame_at untyped_layout s) (reading_takes_memory s) x) (sym is) here

-- a line that is refused does not begin with a body, so its memory is that of the line
pub line_refused : (s : List ℕ) (e : DeError) → ¬ BeginsWithBody s
    → Refuses (frame_at untyped_layout s) (reading_takes_memory s) e
    → Refuses (frame_at untyped_layout s) (line_takes_memory s) e
line_refused s de.Memory body h = (h, body)
line_refused s (de.InvalidInput n) body h = h
line_refused s (de.Msg m) body h = h
line_refused s (de.Utf8 u) body h = h
line_refused s (de.Io k) body h = h

-- ---- lines that are written as they are made

-- the output gained these lines
pub record IsPrinted (bytes : List ℕ) (old now : Option (List ℕ)) (left : List ℕ) : Type 0 where
  pub lines : List ℕ
  pub gained : Appends old now lines
  pub listed : IsListed bytes lines left

pub printed_more : (bytes : List ℕ) (old now next : Option (List ℕ)) (left later : List ℕ) (line : Line)
    → IsPrinted bytes old now left → BeginsWith left line later → Appends now next (line_text line ++ codes "\n")
    → IsPrinted bytes old next later
printed_more bytes old now next left later line is begins gains = record {
  lines = is.lines ++ (line_text line ++ codes "\n");
  gained = appends_more old now next is.lines (line_text line ++ codes "\n") is.gained gains;
  listed = listed_more bytes is.lines left later (line_text line ++ codes "\n") begins.0 is.listed
      begins.1 (ap (λ (l : Line). line_text l ++ codes "\n") begins.2);
}

-- how they end
abbrev pub Listed : List ℕ → Option (List ℕ) → Option (List ℕ) → Ending → Type 0
Listed bytes old now e = (lines : List ℕ) × Lists bytes lines e × Appends old now lines

pub printed_end : (bytes : List ℕ) (old now : Option (List ℕ)) (left : List ℕ) → IsPrinted bytes old now left
    → left ≡ [] → Listed bytes old now Whole
printed_end bytes old now left is none = (
  is.lines,
  listed_end bytes is.lines left is.listed (end_at left none),
  is.gained,
)

pub printed_error : (bytes : List ℕ) (old now : Option (List ℕ)) (left : List ℕ) (e : DeError)
    → IsPrinted bytes old now left → left ≢ [] → Refuses (frame_at untyped_layout left) (line_takes_memory left) e
    → Listed bytes old now (ending_by e)
printed_error bytes old now left e is some refused = (
  is.lines,
  listed_error bytes is.lines left e is.listed some refused,
  is.gained,
)

-- a message that begins what is left makes it shorter
pub line_shorter : (left later : List ℕ) (line : Line) → BeginsWith left line later → length later < length left
line_shorter left later line begins = omega (
  arith,
  frame_at-longer untyped_layout (layout_with-placed (λ n. n) _)
      (omega arith) left later begins.0 begins.1,
)
