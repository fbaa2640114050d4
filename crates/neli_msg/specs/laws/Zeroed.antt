-- A datagram that is read and written again is itself, with zeros for its padding.
use Rattle.std.proofs.Common.{◌≡◌, ℕ, ◌+◌, ◌-◌, ◌<◌, ◌≤◌, Bool, true, false, cond, ltb}
use Rattle.std.proofs.Common.{List, [], ◌∷◌, ◌++◌, length, map, take, drop, Result, Ok, inl}
use Rattle.std.proofs.Common.{inr, refl, sym, ap, subst, ◌∙◌, append_assoc, arith, length-append, length-drop}
use Rattle.std.specs.Prelude.{◌^◌, ⊤, nat_eq, replicate}
use Rattle.std.specs.Int.{cast_signed, w32}
use Rattle.std.specs.List.{All}
use Rattle.std.proofs.lemmas.Bool.{cases_lt, eqb-true, ltb-false}
use Rattle.std.proofs.lemmas.List.{append-nil, drop_all, length-replicate, length-take-le}
use Rattle.std.proofs.lemmas.List.{nil_from_length, replicate-append-replicate, take-take, take_all}
use Rattle.std.proofs.Math.Seq.{take-add}
use Rattle.byteorder.specs.Numbers.{little_from-append, little_from-lt}
use Rattle.neli_wire.specs.declared.errors.DeError.{DeError}
use Rattle.neli_wire.specs.declared.errors.DeError.TheVariants.{InvalidInput}
use Rattle.neli_wire.specs.Frames.{Layout, IsFrame, AreFrames, number_in}
use Rattle.neli_wire.specs.Numbers.{AreBytes, little_bytes, signed_bytes}
use Rattle.neli_wire.specs.Sizes.{align}
use Rattle.neli_wire.specs.Writing.{Wire, ◌+++◌, pad_wire, zeros_for}
use Rattle.neli_wire.specs.laws.Constants.{first_with-number}
use Rattle.neli_wire.specs.laws.FrameLists.{list-frames}
use Rattle.neli_wire.specs.laws.Frames.{number_first}
use Rattle.neli_wire.specs.laws.Numbers.{writes_back-signed}
use Rattle.neli_wire.specs.laws.Reading.{bind_ok, guard_ok, ok_is}
use Rattle.neli_consts.specs.NlmsgerrAttr.{nlmsgerr_attr_number, nlmsgerr_attr_of, nlmsgerr_attr_variants}
use Rattle.neli_consts.specs.declared.nlm_f.NlmF.{NlmF}
use Rattle.neli_consts.specs.declared.nlmsg.NlmsgerrAttr.{NlmsgerrAttr}
use Rattle.neli_consts.specs.declared.nlmsg.NlmsgerrAttr.TheVariants.{UnrecognizedConst}
use Rattle.neli_attr.specs.Attributes.{Attr, attribute, attributes_in}
use Rattle.neli_attr.specs.AttrType.{AttrType}
use Rattle.neli_attr.specs.Nlattr.{nlattr_wire}
use Rattle.neli_attr.specs.TypeField.{number_of, type_of}
use Rattle.neli_attr.specs.laws.Attributes.{attribute-placed}
use Rattle.neli_attr.specs.laws.TypeField.{number_of-type_of}
use Rattle.neli_msg.specs.declared.kind.Kind.{Kind}
use Rattle.neli_msg.specs.declared.kind.Kind.TheVariants.{Body, Nothing, DumpEnd, Acknowledgement, Capped, Failure}
use Rattle.neli_msg.specs.declared.answer.Nlmsgerr.{Nlmsgerr}
use Rattle.neli_msg.specs.declared.kind.Tail.{Tail}
use Rattle.neli_msg.specs.declared.kind.Tail.TheVariants.{Unread, Attributes as Listed}
use Rattle.neli_msg.specs.declared.payload.NlPayload.{NlPayload}
use Rattle.neli_msg.specs.declared.payload.NlPayload.TheVariants as payload
use Rattle.neli_msg.specs.Answers.{Attributes, after, after_echo, answer, attribute_of, code_in, dump_end_in, echo_end}
use Rattle.neli_msg.specs.Answers.{echo_with, echoed_count, echoed_in, echoed_length, ext_ack_in, failure_in, headed_in}
use Rattle.neli_msg.specs.Headers.{Header, flags_of, header_in, header_wire}
use Rattle.neli_msg.specs.Kinds.{is_acknowledged, is_capped, is_multi, kind_of, payload_as, payload_in, tail_of}
use Rattle.neli_msg.specs.Wires.{answer_wire, attributes_wire, payload_wire}
use Rattle.neli_msg.specs.Messages.{Message, message_layout}
use Rattle.neli_msg.specs.Zeroed.{HasNoTail, IsAllRead, attribute_length, attribute_zeroed, attributes_zeroed}
use Rattle.neli_msg.specs.Zeroed.{message_length, message_zeroed, HasNoTailIn, payload_zeroed, untyped_wire}
use Rattle.neli_msg.specs.Zeroed.{untyped_wires, datagram_zeroed, zeros_from}
use Rattle.neli_msg.specs.laws.ZeroedFrames.{States, all-true, bytes-drop, bytes-take, frames-aligned, frames-length}
use Rattle.neli_msg.specs.laws.ZeroedFrames.{frames-wire, frames_by-nil, last_place, place, wire_all-map}

-- ---- untyped

abbrev same : ℕ → ℕ
same n = n

abbrev all : List ℕ → Result (List ℕ) DeError
all bytes = Ok bytes

abbrev untyped_layout : Layout (Header ℕ) (NlPayload ℕ (List ℕ))
untyped_layout = message_layout (λ n. n) (λ n. n) (λ bytes. Ok bytes)

abbrev done : {A : Type 0} → A → Result A DeError
done x = Ok x

abbrev written : List ℕ → Wire
written bytes = Ok bytes

-- ---- headers and codes

abbrev header_bytes : Header ℕ → List ℕ
header_bytes h =
    little_bytes 4 h.len ++ little_bytes 2 h.message_type ++ little_bytes 2 h.flags.0
    ++ little_bytes 4 h.sequence_number ++ little_bytes 4 h.port

-- a header that was read is written as its bytes
header-back : (s : List ℕ) → 16 ≤ length s → AreBytes s → header_bytes (header_in same s) ≡ take 16 s
header-back s le bytes =
    place 4 0 12 s _ (omega arith) bytes
    (place 2 4 10 s _ (omega arith) bytes
    (place 2 6 8 s _ (omega arith) bytes
    (place 4 8 4 s _ (omega arith) bytes
    (last_place 4 12 s (omega arith) bytes))))

-- so is a code
code-back : (s : List ℕ) → 4 ≤ length s → AreBytes s → signed_bytes w32 4 (code_in s) ≡ take 4 s
code-back s le bytes =
    ap (λ (n : ℕ). signed_bytes w32 4 (cast_signed w32 n)) (sym (number_first 4 s le))
    ∙ writes_back-signed w32 4 refl (take 4 s) (length-take-le 4 s le) (bytes-take 4 s bytes)

-- ---- attributes

abbrev kind_of_field : ℕ → AttrType NlmsgerrAttr
kind_of_field = type_of nlmsgerr_attr_of

abbrev Read : Type 0
Read = Attr (AttrType NlmsgerrAttr) (List ℕ)

abbrev read_wire : Read → Wire
read_wire a = nlattr_wire nlmsgerr_attr_number (λ bytes. Ok bytes) (attribute_of a)

pub attribute-states : States (attribute kind_of_field all) attribute_length
attribute-states = record {
  some = λ frame h v is. omega (arith, is.whole, is.least);
  whole = λ frame rest h v is.
      let stated : number_in 2 0 frame ≡ h.len = ap (λ h. h.len) is.header_is in
      let before : number_in 2 0 (frame ++ rest) ≡ number_in 2 0 frame =
      little_from-append 2 frame rest (omega (arith, is.whole, is.least)) in
      is.whole ∙ ap align (sym (before ∙ stated));
}

-- the length and the type, and then the payload
attribute-text : (frame : List ℕ) → 4 ≤ number_in 2 0 frame → number_in 2 0 frame ≤ length frame → AreBytes frame
    → (little_bytes 2 (number_in 2 0 frame) ++ little_bytes 2 (number_in 2 2 frame)) ++ take (number_in 2 0 frame - 4)
    (drop 4 frame) ≡ take (number_in 2 0 frame) frame
attribute-text frame least le bytes =
    let n = number_in 2 0 frame in
    let head : little_bytes 2 (number_in 2 0 frame) ++ little_bytes 2 (number_in 2 2 frame) ≡ take 4 frame =
    place 2 0 2 frame _ (omega arith) bytes (last_place 2 2 frame (omega arith) bytes) in
    ap (λ (x : List ℕ). x ++ take (n - 4) (drop 4 frame)) head ∙ sym (take-add 4 (n - 4) frame)
    ∙ ap (λ (m : ℕ). take m frame) (omega arith)

attribute-back : (frame : List ℕ) (a : Read) → AreBytes frame → IsFrame (attribute kind_of_field all) frame a.0 a.1
    → read_wire a ≡ Ok (attribute_zeroed frame)
attribute-back frame a bytes is =
    let n = number_in 2 0 frame in
    let len : a.0.len ≡ n = sym (ap (λ h. h.len) is.header_is) in
    let small : number_in 2 2 frame < 256 ^ 2 = little_from-lt 0 2 (drop 2 frame) (bytes-drop 2 frame bytes) in
    let number : number_of nlmsgerr_attr_number a.0.kind ≡ number_in 2 2 frame =
    sym (ap (λ h. number_of nlmsgerr_attr_number h.kind) is.header_is)
    ∙ number_of-type_of nlmsgerr_attr_number nlmsgerr_attr_of
    (λ m _. first_with-number nlmsgerr_attr_number nlmsgerr_attr_variants UnrecognizedConst (λ k. refl) m)
    (number_in 2 2 frame) small in
    let body : a.1 ≡ take (n - 4) (drop 4 frame) = sym (ok_is (take (a.0.len - 4) (drop 4 frame)) a.1 is.payload_is)
    ∙ ap (λ (m : ℕ). take (m - 4) (drop 4 frame)) len in
    let whole : length frame ≡ align n = is.whole ∙ ap align len in
    let least : 4 ≤ n = omega (arith, len, is.least) in
    let text = attribute-text frame least (omega (arith, whole)) bytes in
    let sized : length (take n frame) ≡ n = length-take-le n frame (omega (arith, whole)) in
    let wire : (little_bytes 2 a.0.len ++ little_bytes 2 (number_of nlmsgerr_attr_number a.0.kind)) ++ a.1
    ≡ take n frame =
    ap (λ (x : ℕ). (little_bytes 2 x ++ little_bytes 2 (number_of nlmsgerr_attr_number a.0.kind)) ++ a.1) len
    ∙ ap (λ (x : ℕ). (little_bytes 2 n ++ little_bytes 2 x) ++ a.1) number
    ∙ ap (λ (x : List ℕ). (little_bytes 2 n ++ little_bytes 2 (number_in 2 2 frame)) ++ x) body
    ∙ text in
    ap (λ (x : List ℕ). written (x ++ zeros_for (length x))) wire
    ∙ ap (λ (k : ℕ). written (take n frame ++ zeros_for k)) sized
    ∙ ap (λ (k : ℕ). written (take n frame ++ replicate (k - n) 0)) (sym whole)

pub attribute-length : (frame : List ℕ) (a : Read) → IsFrame (attribute kind_of_field all) frame a.0 a.1
    → length (attribute_zeroed frame) ≡ length frame
attribute-length frame a is =
    let n = number_in 2 0 frame in
    let len : a.0.len ≡ n = sym (ap (λ h. h.len) is.header_is) in
    let whole : length frame ≡ align n = is.whole ∙ ap align len in
    let sized : length (take n frame) ≡ n = length-take-le n frame (omega (arith, whole)) in
    omega (
      arith,
      whole,
      sized,
      length-append (take n frame) (replicate (length frame - n) 0),
      length-replicate {A = ℕ} (length frame - n) 0,
    )

-- attributes that were read are written as their bytes, with zeros for padding
pub record AreBack (s : List ℕ) (attrs : Attributes) : Type 0 where
  pub back : attributes_wire attrs ≡ Ok (attributes_zeroed s)
  pub long : length (attributes_zeroed s) ≡ length s
  pub whole : align (length s) ≡ length s

attributes-back : (s : List ℕ) (attrs : Attributes) → AreBytes s → ext_ack_in s ≡ Ok attrs → AreBack s attrs
attributes-back s attrs bytes e =
    let layout = attribute kind_of_field all in
    let found = bind_ok (attributes_in kind_of_field s) _ attrs e in
    let items : List Read = found.0 in
    let are : AreFrames layout s items = list-frames layout (attribute-placed kind_of_field all)
    (omega arith) s items found.1 in
    let known : map attribute_of items ≡ attrs = ok_is (map attribute_of items) attrs found.2 in
    let each = frames-wire layout attribute_length attribute_zeroed attribute-states read_wire (λ _. ⊤)
    (λ frame a b _ is. attribute-back frame a b is) (length s) s items bytes (omega arith) (all-true items) are in
    record {
      back = ap attributes_wire (sym known) ∙ wire_all-map
          (nlattr_wire nlmsgerr_attr_number (λ bytes. Ok bytes)) attribute_of items ∙ each;
      long = frames-length layout attribute_length attribute_zeroed attribute-states attribute-length (length s) s items
          (omega arith) are;
      whole = frames-aligned layout attribute_length attribute_zeroed attribute-states s items are;
    }

-- ---- payloads

-- the written payload and its padding are those bytes, with zeros for padding
pub record IsBack (kind : Kind) (s : List ℕ) (u : NlPayload ℕ (List ℕ)) : Type 0 where
  pub bytes : List ℕ
  pub wire : payload_wire same (λ b. Ok b) u ≡ Ok bytes
  pub is : bytes ++ zeros_for (16 + length bytes) ≡ payload_zeroed kind s ++ zeros_for (16 + length s)

-- bytes without attributes stay
pub whole-zeroed : (s : List ℕ) → zeros_from (length s) (take (length s) s) ++ attributes_zeroed (drop (length s) s) ≡ s
whole-zeroed s =
    let front : take (length s) s ≡ s = take_all (length s) s (omega arith) in
    let rest : drop (length s) s ≡ [] = drop_all (length s) s (omega arith) in
    let none : length s - length s ≡ 0 = omega arith in
    let nil : attributes_zeroed [] ≡ [] = frames_by-nil attribute_length attribute_zeroed 0 in
    ap (λ (x : List ℕ). zeros_from (length s) x ++ attributes_zeroed (drop (length s) s)) front
    ∙ ap (λ (x : List ℕ). zeros_from (length s) s ++ attributes_zeroed x) rest
    ∙ rw (front, none, nil) (append-nil (s ++ []) ∙ append-nil s)

body-back : (s : List ℕ) (u : NlPayload ℕ (List ℕ)) → payload_as same all Body s ≡ Ok u → IsBack Body s u
body-back s u e =
    let one : IsBack Body s (payload.Payload s) = record {
      bytes = s;
      wire = refl;
      is = ap (λ (x : List ℕ). x ++ zeros_for (16 + length s)) (sym (whole-zeroed s));
    } in
    subst (λ (x : NlPayload ℕ (List ℕ)). IsBack Body s x) (ok_is (payload.Payload s) u e) one

nothing-back : (s : List ℕ) (u : NlPayload ℕ (List ℕ)) → length s ≡ 0 → payload_as same all Nothing s ≡ Ok u
    → IsBack Nothing s u
nothing-back [] u none e =
    let one : IsBack Nothing [] payload.Empty = record {
      bytes = [];
      wire = refl;
      is = ap (λ (x : List ℕ). x ++ zeros_for 16) (sym (whole-zeroed []));
    } in
    subst (λ (x : NlPayload ℕ (List ℕ)). IsBack Nothing [] x) (ok_is payload.Empty u e) one
nothing-back (b ∷ s) u none e = absurd (omega arith)

-- an answer that echoes only a header is written as these bytes
record IsHeadBack (tail : Tail) (s : List ℕ) (x : Nlmsgerr (Header ℕ)) : Type 0 where
  bytes : List ℕ
  wire : answer_wire (header_wire same) x ≡ Ok bytes
  is : bytes ++ zeros_for (16 + length bytes) ≡ payload_zeroed (Acknowledgement tail) s ++ zeros_for (16 + length s)

-- its code and its header are its first 20 bytes
head-parts : (s : List ℕ) → 20 ≤ length s → AreBytes s
    → signed_bytes w32 4 (code_in s) ++ header_bytes (header_in same (drop 4 s)) ≡ take 20 s
head-parts s long bytes =
    let code = code-back s (omega arith) bytes in
    let header = header-back (drop 4 s) (omega (arith, length-drop 4 s)) (bytes-drop 4 s bytes) in
    ap (λ (x : List ℕ). x ++ header_bytes (header_in same (drop 4 s))) code ∙ ap (λ (x : List ℕ). take 4 s ++ x) header
    ∙ sym (take-add 4 16 s)

head-back : (tail : Tail) (s : List ℕ) (x : Nlmsgerr (Header ℕ)) → AreBytes s → IsAllRead tail (16 + length s)
    → headed_in same tail s ≡ Ok x → IsHeadBack tail s x
head-back Unread s x bytes all_read e =
    let r = bind_ok (after 20 s) _ x e in
    let g = guard_ok (ltb (length s) 20) (InvalidInput (length s)) _ r.0 r.1 in
    let long : 20 ≤ length s = ltb-false _ _ g.0 in
    let most : length s ≤ 20 = omega (arith, all_read) in
    let known : answer (code_in s) (header_in same (drop 4 s)) [] ≡ x = ok_is _ x r.2 in
    let text : (signed_bytes w32 4 (code_in s) ++ header_bytes (header_in same (drop 4 s))) ++ [] ≡ s =
    append-nil _ ∙ head-parts s long bytes ∙ take_all 20 s most in
    let one : IsHeadBack Unread s (answer (code_in s) (header_in same (drop 4 s)) []) = record {
      bytes = s;
      wire = ap written text;
      is = ap (λ (x : List ℕ). x ++ zeros_for (16 + length s)) (sym (whole-zeroed s));
    } in
    subst (λ (y : Nlmsgerr (Header ℕ)). IsHeadBack Unread s y) known one
head-back Listed s x bytes all_read e =
    let r = bind_ok (after 20 s) _ x e in
    let g = guard_ok (ltb (length s) 20) (InvalidInput (length s)) _ r.0 r.1 in
    let long : 20 ≤ length s = ltb-false _ _ g.0 in
    let rest : drop 20 s ≡ r.0 = ok_is (drop 20 s) r.0 g.1 in
    let t = bind_ok (ext_ack_in r.0) _ x r.2 in
    let attrs : ext_ack_in (drop 20 s) ≡ Ok t.0 = ap ext_ack_in rest ∙ t.1 in
    let known : answer (code_in s) (header_in same (drop 4 s)) t.0 ≡ x = ok_is _ x t.2 in
    let listed = attributes-back (drop 20 s) t.0 (bytes-drop 20 s bytes) attrs in
    let twenty : length (take 20 s) ≡ 20 = length-take-le 20 s long in
    let front : zeros_from 20 (take 20 s) ≡ take 20 s =
    rw (take-take 20 20 s (omega arith), twenty) (append-nil (take 20 s)) in
    let sized : length (take 20 s ++ attributes_zeroed (drop 20 s)) ≡ length s =
    omega (
      arith,
      length-append (take 20 s) (attributes_zeroed (drop 20 s)),
      twenty,
      listed.long,
      length-drop 20 s,
    ) in
    let one : IsHeadBack Listed s (answer (code_in s) (header_in same (drop 4 s)) t.0) = record {
      bytes = take 20 s ++ attributes_zeroed (drop 20 s);
      wire =
          ap (λ (w : Wire). (written (signed_bytes w32 4 (code_in s)) +++ written
          (header_bytes (header_in same (drop 4 s)))) +++ w) listed.back
          ∙ ap (λ (x : List ℕ). written (x ++ attributes_zeroed (drop 20 s))) (head-parts s long bytes);
      is = rw (sized, front) refl;
    } in
    subst (λ (y : Nlmsgerr (Header ℕ)). IsHeadBack Listed s y) known one

acknowledgement-back : (tail : Tail) (s : List ℕ) (u : NlPayload ℕ (List ℕ)) → AreBytes s
    → IsAllRead tail (16 + length s) → payload_as same all (Acknowledgement tail) s ≡ Ok u
    → IsBack (Acknowledgement tail) s u
acknowledgement-back tail s u bytes all_read e =
    let b = bind_ok (headed_in same tail s) _ u e in
    let back = head-back tail s b.0 bytes all_read b.1 in
    let one : IsBack (Acknowledgement tail) s (payload.Ack b.0) =
    record { bytes = back.bytes; wire = back.wire; is = back.is } in
    subst (λ (x : NlPayload ℕ (List ℕ)). IsBack (Acknowledgement tail) s x) (ok_is (payload.Ack b.0) u b.2) one

capped-back : (tail : Tail) (s : List ℕ) (u : NlPayload ℕ (List ℕ)) → AreBytes s → IsAllRead tail (16 + length s)
    → payload_as same all (Capped tail) s ≡ Ok u → IsBack (Capped tail) s u
capped-back tail s u bytes all_read e =
    let b = bind_ok (headed_in same tail s) _ u e in
    let back = head-back tail s b.0 bytes all_read b.1 in
    let one : IsBack (Capped tail) s (payload.Capped b.0) =
    record { bytes = back.bytes; wire = back.wire; is = back.is } in
    subst (λ (x : NlPayload ℕ (List ℕ)). IsBack (Capped tail) s x) (ok_is (payload.Capped b.0) u b.2) one

dump_end-back : (s : List ℕ) (u : NlPayload ℕ (List ℕ)) → AreBytes s → payload_as same all DumpEnd s ≡ Ok u
    → IsBack DumpEnd s u
dump_end-back s u bytes e =
    let b = bind_ok (dump_end_in s) _ u e in
    let r = bind_ok (after 4 s) _ b.0 b.1 in
    let g = guard_ok (ltb (length s) 4) (InvalidInput (length s)) _ r.0 r.1 in
    let long : 4 ≤ length s = ltb-false _ _ g.0 in
    let rest : drop 4 s ≡ r.0 = ok_is (drop 4 s) r.0 g.1 in
    let x = bind_ok (ext_ack_in r.0) _ b.0 r.2 in
    let attrs : ext_ack_in (drop 4 s) ≡ Ok x.0 = ap ext_ack_in rest ∙ x.1 in
    let known : answer (code_in s) tt x.0 ≡ b.0 = ok_is _ b.0 x.2 in
    let listed = attributes-back (drop 4 s) x.0 (bytes-drop 4 s bytes) attrs in
    let code : signed_bytes w32 4 (code_in s) ++ [] ≡ take 4 s = append-nil _ ∙ code-back s long bytes in
    let four : length (take 4 s) ≡ 4 = length-take-le 4 s long in
    let front : zeros_from 4 (take 4 s) ≡ take 4 s = rw (take-take 4 4 s (omega arith), four) (append-nil (take 4 s)) in
    let sized : length (take 4 s ++ attributes_zeroed (drop 4 s)) ≡ length s =
    omega (arith, length-append (take 4 s) (attributes_zeroed (drop 4 s)), four, listed.long, length-drop 4 s) in
    let one : IsBack DumpEnd s (payload.DumpExtAck (answer (code_in s) tt x.0)) = record {
      bytes = take 4 s ++ attributes_zeroed (drop 4 s);
      wire =
          ap (λ (w : Wire). (written (signed_bytes w32 4 (code_in s)) +++ written []) +++ w) listed.back
          ∙ ap (λ (x : List ℕ). written (x ++ attributes_zeroed (drop 4 s))) code;
      is = rw (sized, front) refl;
    } in
    subst (λ (x : NlPayload ℕ (List ℕ)). IsBack DumpEnd s x) (ap (λ x. payload.DumpExtAck x) known
    ∙ ok_is (payload.DumpExtAck b.0) u b.2) one

-- ---- errors

-- zeros after the echoed payload, and after the whole: as many as there were, if attributes follow
echo-padding : (s : List ℕ) (c : ℕ) (attrs : List ℕ) → 20 + c ≤ length s → length attrs ≡ length s - (20 + align c)
    → align (length attrs) ≡ length attrs → let w = (take (20 + c) s ++ zeros_for (16 + c)) ++ attrs in
    w ++ zeros_for (16 + length w) ≡ (zeros_from (20 + c) (take (20 + align c) s) ++ attrs) ++ zeros_for (16 + length s)
echo-padding s c attrs enough long whole =
    let w = (take (20 + c) s ++ zeros_for (16 + c)) ++ attrs in
    let front : length (take (20 + c) s) ≡ 20 + c = length-take-le (20 + c) s enough in
    let gaps : length (zeros_for (16 + c)) ≡ align c - c = length-replicate {A = ℕ} (align (16 + c) - (16 + c)) 0
    ∙ omega arith in
    let sized : length w ≡ 20 + align c + length attrs =
    omega (
      arith,
      length-append (take (20 + c) s ++ zeros_for (16 + c)) attrs,
      length-append (take (20 + c) s) (zeros_for (16 + c)),
      front,
      gaps,
    ) in
    let none : align (16 + length w) - (16 + length w) ≡ 0 = omega (arith, sized, whole) in
    let kept : take (20 + c) (take (20 + align c) s) ≡ take (20 + c) s =
    take-take (20 + c) (20 + align c) s (omega arith) in
    let left : w ++ zeros_for (16 + length w) ≡ w = (rw none refl) ∙ append-nil w in
    elim (cases_lt (length s) (20 + align c)) [
      | inl few ↦
          let nothing : length attrs ≡ 0 = omega arith in
          let is : attrs ≡ [] = nil_from_length attrs nothing in
          let all_there : take (20 + align c) s ≡ s = take_all (20 + align c) s (omega arith) in
          let count : (length s - (20 + c)) + (align (16 + length s) - (16 + length s)) ≡ align (16 + c) - (16 + c) =
          omega arith in
          let zeros : replicate (length s - (20 + c)) 0 ++ zeros_for (16 + length s) ≡ zeros_for (16 + c) =
          replicate-append-replicate (length s - (20 + c)) (align (16 + length s) - (16 + length s)) 0
          ∙ ap (λ (n : ℕ). replicate n 0) count in
          left
          ∙ ap (λ (x : List ℕ). (take (20 + c) s ++ zeros_for (16 + c)) ++ x) is
          ∙ append-nil _
          ∙ ap (λ (x : List ℕ). take (20 + c) s ++ x) (sym zeros)
          ∙ sym (append_assoc (take (20 + c) s) (replicate (length s - (20 + c)) 0) (zeros_for (16 + length s)))
          ∙ ap (λ (x : List ℕ). x ++ zeros_for (16 + length s)) (sym (append-nil (zeros_from (20 + c) s)))
          ∙ ap (λ (x : List ℕ). (zeros_from (20 + c) s ++ x) ++ zeros_for (16 + length s)) (sym is)
          ∙ ap (λ (x : List ℕ). (zeros_from (20 + c) x ++ attrs) ++ zeros_for (16 + length s)) (sym all_there)
      | inr enough_for_all ↦
          let cut : length (take (20 + align c) s) ≡ 20 + align c = length-take-le (20 + align c) s enough_for_all in
          let ends : align (16 + length s) - (16 + length s) ≡ 0 = omega (arith, long, whole) in
          let same_gap : length (take (20 + align c) s) - (20 + c) ≡ align (16 + c) - (16 + c) = omega (arith, cut) in
          left ∙ sym (rw (ends, kept, same_gap) (append-nil w))
    ]

failure-back : (s : List ℕ) (u : NlPayload ℕ (List ℕ)) → AreBytes s → payload_as same all Failure s ≡ Ok u
    → IsBack Failure s u
failure-back s u bytes e =
    let b = bind_ok (failure_in same all s) _ u e in
    let r = bind_ok (after 20 s) _ b.0 b.1 in
    let g = guard_ok (ltb (length s) 20) (InvalidInput (length s)) _ r.0 r.1 in
    let long : 20 ≤ length s = ltb-false _ _ g.0 in
    let h = bind_ok (echoed_in s) _ b.0 r.2 in
    let g1 = guard_ok (ltb (echoed_length s) 16) (InvalidInput (echoed_length s)) _ h.0 h.1 in
    let g2 = guard_ok (ltb (length s - 20) (echoed_count s)) (InvalidInput (echoed_count s)) _ h.0 g1.1 in
    let c = echoed_count s in
    let there : c ≤ length s - 20 = ltb-false _ _ g2.0 in
    let echoed : take c (drop 20 s) ≡ h.0 = ok_is (take c (drop 20 s)) h.0 g2.1 in
    let x = bind_ok (ext_ack_in (after_echo s)) _ b.0 h.2 in
    let known : answer (code_in s) (echo_with same s h.0) x.0 ≡ b.0 = ok_is _ b.0 x.2 in
    let listed = attributes-back (after_echo s) x.0 (bytes-drop (echo_end s) s bytes) x.1 in
    let code = code-back s (omega arith) bytes in
    let header = header-back (drop 4 s) (omega (arith, length-drop 4 s)) (bytes-drop 4 s bytes) in
    let sixteen : length (take 16 (drop 4 s)) ≡ 16 = length-take-le 16 (drop 4 s) (omega (arith, length-drop 4 s)) in
    let counted : length (take c (drop 20 s)) ≡ c = length-take-le c (drop 20 s) (omega (arith, length-drop 20 s)) in
    let padded : length (take 16 (drop 4 s) ++ take c (drop 20 s)) ≡ 16 + c =
    omega (arith, length-append (take 16 (drop 4 s)) (take c (drop 20 s)), sixteen, counted) in
    let front : take 4 s ++ (take 16 (drop 4 s) ++ take c (drop 20 s)) ≡ take (20 + c) s =
    sym (append_assoc (take 4 s) (take 16 (drop 4 s)) (take c (drop 20 s)))
    ∙ ap (λ (y : List ℕ). y ++ take c (drop 20 s)) (sym (take-add 4 16 s)) ∙ sym (take-add 20 c s) in
    let a : List ℕ = attributes_zeroed (after_echo s) in
    let body : List ℕ = take c (drop 20 s) in
    let answered_header : Header ℕ = header_in same (drop 4 s) in
    let text : take 4 s ++ ((take 16 (drop 4 s) ++ take c (drop 20 s)) ++ zeros_for (16 + c))
    ≡ take (20 + c) s ++ zeros_for (16 + c) =
    sym (append_assoc (take 4 s) (take 16 (drop 4 s) ++ take c (drop 20 s)) (zeros_for (16 + c)))
    ∙ ap (λ (y : List ℕ). y ++ zeros_for (16 + c)) front in
    let left : length a ≡ length s - (20 + align c) = listed.long ∙ length-drop (echo_end s) s in
    let whole : align (length a) ≡ length a = ap align listed.long ∙ listed.whole ∙ sym listed.long in
    let one : IsBack Failure s (payload.Err (answer (code_in s) (echo_with same s (take c (drop 20 s))) x.0)) = record {
      bytes = (take (20 + c) s ++ zeros_for (16 + c)) ++ a;
      wire =
          ap (λ (w : Wire). (written (signed_bytes w32 4 (code_in s)) +++ pad_wire
          (written (header_bytes answered_header) +++ written body)) +++ w) listed.back
          ∙ ap (λ (x : List ℕ). written ((x ++ ((header_bytes answered_header ++ body) ++ zeros_for
          (length (header_bytes answered_header ++ body)))) ++ a)) code
          ∙ ap (λ (x : List ℕ). written ((take 4 s ++ ((x ++ body) ++ zeros_for (length (x ++ body)))) ++ a)) header
          ∙ ap (λ (k : ℕ). written ((take 4 s ++ ((take 16 (drop 4 s) ++ body) ++ zeros_for k)) ++ a)) padded
          ∙ ap (λ (x : List ℕ). written (x ++ a)) text;
      is = echo-padding s c a (omega arith) left whole;
    } in
    let answered = ap (λ (y : List ℕ). payload.Err (answer (code_in s) (echo_with same s y) x.0)) echoed in
    subst (λ (x : NlPayload ℕ (List ℕ)). IsBack Failure s x) (answered ∙ ap (λ x. payload.Err x) known
    ∙ ok_is (payload.Err b.0) u b.2) one

-- ---- messages

-- the kind by the bits that decide it
abbrev kind_bits : Bool → Bool → Bool → Bool → Bool → Bool → Tail → Kind
kind_bits is2 ok capped is3 none multi tail =
    cond is2 (cond ok (Acknowledgement tail) (cond capped (Capped tail) Failure))
    (cond is3 (cond none Nothing (cond multi DumpEnd Body)) Body)

-- a payload of kind `Nothing` has no bytes
nothing-bits : (is2 ok capped is3 none multi : Bool) (tail : Tail)
    → kind_bits is2 ok capped is3 none multi tail ≡ Nothing → none ≡ true
nothing-bits true true capped is3 none multi tail e = absurd cc
nothing-bits true false true is3 none multi tail e = absurd cc
nothing-bits true false false is3 none multi tail e = absurd cc
nothing-bits false ok capped true true multi tail e = refl
nothing-bits false ok capped true false true tail e = absurd cc
nothing-bits false ok capped true false false tail e = absurd cc
nothing-bits false ok capped false none multi tail e = absurd cc

nothing-empty : (number : ℕ) (flags : NlmF) (s : List ℕ) → kind_of number flags s ≡ Nothing → length s ≡ 0
nothing-empty number flags s e =
    eqb-true (length s) 0 (nothing-bits (nat_eq number 2) (is_acknowledged s) (is_capped flags) (nat_eq number 3)
    (nat_eq (length s) 0) (is_multi flags) (tail_of flags) e)

-- the tail of an answer that echoes only a header is the one that the flags decide
acknowledgement-bits : (is2 ok capped is3 none multi : Bool) (tail t : Tail)
    → kind_bits is2 ok capped is3 none multi tail ≡ Acknowledgement t → tail ≡ t
acknowledgement-bits true true capped is3 none multi tail t e = cc
acknowledgement-bits true false true is3 none multi tail t e = absurd cc
acknowledgement-bits true false false is3 none multi tail t e = absurd cc
acknowledgement-bits false ok capped true true multi tail t e = absurd cc
acknowledgement-bits false ok capped true false true tail t e = absurd cc
acknowledgement-bits false ok capped true false false tail t e = absurd cc
acknowledgement-bits false ok capped false none multi tail t e = absurd cc

capped-bits : (is2 ok capped is3 none multi : Bool) (tail t : Tail)
    → kind_bits is2 ok capped is3 none multi tail ≡ Capped t → tail ≡ t
capped-bits true true capped is3 none multi tail t e = absurd cc
capped-bits true false true is3 none multi tail t e = cc
capped-bits true false false is3 none multi tail t e = absurd cc
capped-bits false ok capped true true multi tail t e = absurd cc
capped-bits false ok capped true false true tail t e = absurd cc
capped-bits false ok capped true false false tail t e = absurd cc
capped-bits false ok capped false none multi tail t e = absurd cc

acknowledgement-tail : (number : ℕ) (flags : NlmF) (s : List ℕ) (t : Tail) → kind_of number flags s ≡ Acknowledgement t
    → tail_of flags ≡ t
acknowledgement-tail number flags s t =
    acknowledgement-bits (nat_eq number 2) (is_acknowledged s) (is_capped flags) (nat_eq number 3) (nat_eq (length s) 0)
    (is_multi flags) (tail_of flags) t

capped-tail : (number : ℕ) (flags : NlmF) (s : List ℕ) (t : Tail) → kind_of number flags s ≡ Capped t
    → tail_of flags ≡ t
capped-tail number flags s t =
    capped-bits (nat_eq number 2) (is_acknowledged s) (is_capped flags) (nat_eq number 3) (nat_eq (length s) 0)
    (is_multi flags) (tail_of flags) t

-- if no byte of a payload was left unread, none was after the header that it echoes
acknowledgement-read : (tail : Tail) (s : List ℕ) (u : NlPayload ℕ (List ℕ)) (len : ℕ)
    → payload_as same all (Acknowledgement tail) s ≡ Ok u → HasNoTailIn tail len u → IsAllRead tail len
acknowledgement-read tail s u len e all_read =
    let b = bind_ok (headed_in same tail s) _ u e in
    subst (λ (x : NlPayload ℕ (List ℕ)). HasNoTailIn tail len x) (sym (ok_is (payload.Ack b.0) u b.2)) all_read

capped-read : (tail : Tail) (s : List ℕ) (u : NlPayload ℕ (List ℕ)) (len : ℕ)
    → payload_as same all (Capped tail) s ≡ Ok u → HasNoTailIn tail len u → IsAllRead tail len
capped-read tail s u len e all_read =
    let b = bind_ok (headed_in same tail s) _ u e in
    subst (λ (x : NlPayload ℕ (List ℕ)). HasNoTailIn tail len x) (sym (ok_is (payload.Capped b.0) u b.2)) all_read

payload-back : (number : ℕ) (flags : NlmF) (s : List ℕ) (u : NlPayload ℕ (List ℕ)) → AreBytes s
    → payload_in same all number flags s ≡ Ok u → HasNoTailIn (tail_of flags) (16 + length s) u
    → IsBack (kind_of number flags s) s u
payload-back number flags s u bytes e tail = by (kind_of number flags s) refl e
  where
    by : (kind : Kind) → kind_of number flags s ≡ kind → payload_as same all kind s ≡ Ok u → IsBack kind s u
    by Body is e = body-back s u e
    by Nothing is e = nothing-back s u (nothing-empty number flags s is) e
    by DumpEnd is e = dump_end-back s u bytes e
    by (Acknowledgement t) is e =
        let no_tail : HasNoTailIn t (16 + length s) u =
        subst (λ (x : Tail). HasNoTailIn x (16 + length s) u) (acknowledgement-tail number flags s t is) tail in
        acknowledgement-back t s u bytes (acknowledgement-read t s u (16 + length s) e no_tail) e
    by (Capped t) is e =
        let no_tail : HasNoTailIn t (16 + length s) u =
        subst (λ (x : Tail). HasNoTailIn x (16 + length s) u) (capped-tail number flags s t is) tail in
        capped-back t s u bytes (capped-read t s u (16 + length s) e no_tail) e
    by Failure is e = failure-back s u bytes e

pub message-states : States untyped_layout message_length
message-states = record {
  some = λ frame h v is. omega (arith, is.whole, is.least);
  whole = λ frame rest h v is.
      let stated : number_in 4 0 frame ≡ h.len = ap (λ h. h.len) is.header_is in
      let before : number_in 4 0 (frame ++ rest) ≡ number_in 4 0 frame =
      little_from-append 4 frame rest (omega (arith, is.whole, is.least)) in
      is.whole ∙ ap align (sym (before ∙ stated));
}

message-back : (frame : List ℕ) (m : Message ℕ (List ℕ)) → AreBytes frame → HasNoTail m
    → IsFrame untyped_layout frame m.0 m.1 → untyped_wire m ≡ Ok (message_zeroed frame)
message-back frame m bytes tail is = subst Q is.header_is there is.least is.whole is.payload_is tail
  where
    n : ℕ
    n = number_in 4 0 frame

    body : List ℕ
    body = take (n - 16) (drop 16 frame)

    Q : Header ℕ → Type 0
    Q h = 16 ≤ h.len → length frame ≡ align h.len → payload_in same all h.message_type h.flags
        (take (h.len - 16) (drop 16 frame)) ≡ Ok m.1 → HasNoTailIn (tail_of h.flags) h.len m.1
        → untyped_wire (h, m.1) ≡ Ok (message_zeroed frame)

    there : Q (header_in same frame)
    there least whole reads tail =
        let sized : length body ≡ n - 16 = length-take-le (n - 16) (drop 16 frame)
        (omega (arith, whole, length-drop 16 frame)) in
        let len : 16 + length body ≡ n = omega (arith, sized) in
        let flags : NlmF = flags_of (number_in 2 6 frame) in
        let tailless : HasNoTailIn (tail_of flags) (16 + length body) m.1 =
        subst (λ (k : ℕ). HasNoTailIn (tail_of flags) k m.1) (sym len) tail in
        let back = payload-back (number_in 2 4 frame) (flags_of (number_in 2 6 frame)) body m.1
        (bytes-take (n - 16) (drop 16 frame) (bytes-drop 16 frame bytes)) reads tailless in
        let w : List ℕ = back.bytes in
        let head = header-back frame (omega (arith, whole)) bytes in
        let front : length (take 16 frame) ≡ 16 = length-take-le 16 frame (omega (arith, whole)) in
        let count : length (take 16 frame ++ w) ≡ 16 + length w =
        omega (arith, length-append (take 16 frame) w, front) in
        let zeros : zeros_for (16 + length body) ≡ replicate (length frame - n) 0 = rw (len, whole) refl in
        let payload_is : List ℕ = payload_zeroed (kind_of (number_in 2 4 frame)
        (flags_of (number_in 2 6 frame)) body) body in
        let ends : w ++ zeros_for (16 + length w) ≡ payload_is ++ replicate (length frame - n) 0 = back.is
        ∙ ap (λ (x : List ℕ). payload_is ++ x) zeros in
        let grouped : (take 16 frame ++ w) ++ zeros_for (16 + length w)
        ≡ take 16 frame ++ (w ++ zeros_for (16 + length w)) =
        append_assoc (take 16 frame) w (zeros_for (16 + length w)) in
        let text : (take 16 frame ++ w) ++ zeros_for (16 + length w) ≡ message_zeroed frame = grouped
        ∙ ap (λ (x : List ℕ). take 16 frame ++ x) ends
        ∙ sym (append_assoc (take 16 frame) payload_is (replicate (length frame - n) 0)) in
        ap (λ (x : Wire). pad_wire (written (header_bytes (header_in same frame)) +++ x)) back.wire
        ∙ ap (λ (x : List ℕ). written ((x ++ w) ++ zeros_for (length (x ++ w)))) head
        ∙ ap (λ (k : ℕ). written ((take 16 frame ++ w) ++ zeros_for k)) count
        ∙ ap written text

-- the messages of a datagram without a fault
pub datagram-back : (b : List ℕ) (ms : List (Message ℕ (List ℕ))) → AreBytes b → AreFrames untyped_layout b ms
    → All HasNoTail ms → untyped_wires ms ≡ Ok (datagram_zeroed b)
datagram-back b ms bytes are tails =
    frames-wire untyped_layout message_length message_zeroed message-states untyped_wire HasNoTail message-back
    (length b) b ms bytes (omega arith) tails are
