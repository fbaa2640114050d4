-- A datagram with zeros for its padding is read as the same messages.
use Rattle.std.proofs.Common.{◌≡◌, ℕ, ◌+◌, ◌-◌, ◌≤◌, ltb, List, ◌++◌, length, map, take, drop, Result}
use Rattle.std.proofs.Common.{Ok, inl, inr, refl, sym, ap, subst, ◌∙◌, append_assoc, arith, length-append, length-drop}
use Rattle.std.specs.Prelude.{ℤ, replicate}
use Rattle.std.specs.Int.{cast_signed, w32}
use Rattle.std.proofs.lemmas.Bool.{cases_lt, le-ltb, ltb-false}
use Rattle.std.proofs.lemmas.List.{append-nil, drop-append-le, drop-take, drop_all}
use Rattle.std.proofs.lemmas.List.{drop_at, length-replicate, length-take-le, nil_from_length}
use Rattle.std.proofs.lemmas.List.{take-append-drop, take-append-le, take-take, take_at}
use Rattle.byteorder.specs.Endian.{little_number}
use Rattle.neli_wire.specs.declared.errors.DeError.{DeError}
use Rattle.neli_wire.specs.declared.errors.DeError.TheVariants.{InvalidInput}
use Rattle.neli_wire.specs.Frames.{Layout, IsFrame, AreFrames, number_in}
use Rattle.neli_wire.specs.Reading.{◌>>=◌}
use Rattle.neli_wire.specs.Sizes.{align}
use Rattle.neli_wire.specs.laws.FrameLists.{frames-list, list-frames}
use Rattle.neli_wire.specs.laws.Frames.{number_first}
use Rattle.neli_wire.specs.laws.Reading.{bind_ok, guard_ok, ok_is}
use Rattle.neli_consts.specs.NlmsgerrAttr.{nlmsgerr_attr_of}
use Rattle.neli_consts.specs.declared.nlm_f.NlmF.{NlmF}
use Rattle.neli_consts.specs.declared.nlmsg.NlmsgerrAttr.{NlmsgerrAttr}
use Rattle.neli_attr.specs.Attributes.{Attr, attribute, attributes_in}
use Rattle.neli_attr.specs.AttrType.{AttrType}
use Rattle.neli_attr.specs.TypeField.{type_of}
use Rattle.neli_attr.specs.laws.Attributes.{attribute-placed}
use Rattle.neli_msg.specs.declared.answer.Nlmsgerr.{Nlmsgerr}
use Rattle.neli_msg.specs.Framed.{NlmsghdrErr}
use Rattle.neli_msg.specs.declared.kind.Kind.{Kind}
use Rattle.neli_msg.specs.declared.kind.Kind.TheVariants.{Body, Nothing, DumpEnd, Acknowledgement, Capped, Failure}
use Rattle.neli_msg.specs.declared.kind.Tail.TheVariants.{Unread, Attributes as Listed}
use Rattle.neli_msg.specs.declared.payload.NlPayload.{NlPayload}
use Rattle.neli_msg.specs.declared.payload.NlPayload.TheVariants as payload
use Rattle.neli_msg.specs.Answers.{Attributes, after, after_echo, answer, attribute_of, code_in, dump_end_in, echo_end}
use Rattle.neli_msg.specs.Answers.{echo_with, echoed_count, echoed_in, echoed_length, ext_ack_in, failure_in, headed_in}
use Rattle.neli_msg.specs.Headers.{Header, flags_of, header_in}
use Rattle.neli_msg.specs.Kinds.{kind_of, payload_as, payload_in}
use Rattle.neli_msg.specs.Messages.{Message, message_layout}
use Rattle.neli_msg.specs.Zeroed.{attribute_length, attribute_zeroed, attributes_zeroed, message_length}
use Rattle.neli_msg.specs.Zeroed.{message_zeroed, payload_zeroed, datagram_zeroed, zeros_from}
use Rattle.neli_msg.specs.laws.Messages.{layout_with-placed}
use Rattle.neli_msg.specs.laws.Zeroed.{attribute-length, attribute-states, message-states, whole-zeroed}
use Rattle.neli_msg.specs.laws.ZeroedFrames.{frames-again, frames-length}

abbrev same : ℕ → ℕ
same n = n

abbrev all : List ℕ → Result (List ℕ) DeError
all bytes = Ok bytes

abbrev untyped_layout : Layout (Header ℕ) (NlPayload ℕ (List ℕ))
untyped_layout = message_layout (λ n. n) (λ n. n) (λ bytes. Ok bytes)

abbrev kind_of_field : ℕ → AttrType NlmsgerrAttr
kind_of_field = type_of nlmsgerr_attr_of

abbrev Read : Type 0
Read = Attr (AttrType NlmsgerrAttr) (List ℕ)

-- ---- the first bytes

-- a part of the first n bytes is the same whatever follows them
part-same : (n i m : ℕ) (s rest : List ℕ) → i + m ≤ n → n ≤ length s
    → take m (drop i (take n s ++ rest)) ≡ take m (drop i s)
part-same n i m s rest le long =
    let sized : length (take n s) ≡ n = length-take-le n s long in
    let split : take n s ≡ take (i + (n - i)) s = ap (λ (k : ℕ). take k s) (omega arith) in
    ap (λ (x : List ℕ). take m x) (drop-append-le i (take n s) rest (omega (arith, sized)))
    ∙ take-append-le m (drop i (take n s)) rest (omega (arith, sized, length-drop i (take n s)))
    ∙ ap (λ (x : List ℕ). take m (drop i x)) split
    ∙ ap (λ (x : List ℕ). take m x) (drop-take i (n - i) s)
    ∙ take-take m (n - i) (drop i s) (omega arith)

-- so is a number
number-same : (k i n : ℕ) (s rest : List ℕ) → i + k ≤ n → n ≤ length s
    → number_in k i (take n s ++ rest) ≡ number_in k i s
number-same k i n s rest le long =
    let sized : length (take n s) ≡ n = length-take-le n s long in
    sym (number_first k (drop i (take n s ++ rest)) (omega (
      arith,
      length-drop i (take n s ++ rest),
      length-append (take n s) rest,
      sized,
    )))
    ∙ ap (λ (x : List ℕ). little_number k x) (part-same n i k s rest le long)
    ∙ number_first k (drop i s) (omega (arith, length-drop i s))

-- ---- attributes

attribute-again : (frame : List ℕ) (a : Read) → IsFrame (attribute kind_of_field all) frame a.0 a.1
    → IsFrame (attribute kind_of_field all) (attribute_zeroed frame) a.0 a.1
attribute-again frame a is =
    let n = number_in 2 0 frame in
    let zeros : List ℕ = replicate (length frame - n) 0 in
    let len : n ≡ a.0.len = ap (λ h. h.len) is.header_is in
    let long : n ≤ length frame = omega (arith, is.whole, len) in
    let lens = number-same 2 0 n frame zeros (omega (arith, is.least, len)) long in
    let kinds = number-same 2 2 n frame zeros (omega (arith, is.least, len)) long in
    let body : take (a.0.len - 4) (drop 4 (take n frame ++ zeros)) ≡ take (a.0.len - 4) (drop 4 frame) =
    part-same n 4 (a.0.len - 4) frame zeros (omega (arith, is.least, len)) long in
    record {
      header_is = rw (lens, kinds) is.header_is;
      least = is.least;
      whole = attribute-length frame a is ∙ is.whole;
      payload_is = ap all body ∙ is.payload_is;
    }

-- attributes with zeros for padding are the same attributes
attributes-again : (s : List ℕ) (attrs : Attributes) → ext_ack_in s ≡ Ok attrs
    → (ext_ack_in (attributes_zeroed s) ≡ Ok attrs) × (length (attributes_zeroed s) ≡ length s)
attributes-again s attrs e =
    let layout = attribute kind_of_field all in
    let placed = attribute-placed kind_of_field all in
    let found = bind_ok (attributes_in kind_of_field s) _ attrs e in
    let items : List Read = found.0 in
    let are : AreFrames layout s items = list-frames layout placed (omega arith) s items found.1 in
    let again : AreFrames layout (attributes_zeroed s) items =
    frames-again layout attribute_length attribute_zeroed attribute-states attribute-again (length s) s items
    (omega arith) are in
    let read : attributes_in kind_of_field (attributes_zeroed s) ≡ Ok items =
    frames-list layout placed (omega arith) (attributes_zeroed s) items again in
    let known : map attribute_of items ≡ attrs = ok_is (map attribute_of items) attrs found.2 in (
      rw read (ap (λ (x : Attributes). all_attributes x) known),
      frames-length layout attribute_length attribute_zeroed attribute-states attribute-length (length s) s items
          (omega arith) are,
    )
  where
    all_attributes : Attributes → Result Attributes DeError
    all_attributes x = Ok x

-- ---- payloads

-- a payload with zeros for padding: as long as it was, of the same kind, and read as the same
pub record IsAgain (number : ℕ) (flags : NlmF) (s z : List ℕ) (u : NlPayload ℕ (List ℕ)) : Type 0 where
  pub long : length z ≡ length s
  pub reads : payload_in same all number flags z ≡ Ok u

-- the kind depends on the type, the flags, the length and the code
kind-same : (number : ℕ) (flags : NlmF) (s z : List ℕ) → length z ≡ length s → number_in 4 0 z ≡ number_in 4 0 s
    → kind_of number flags z ≡ kind_of number flags s
kind-same number flags s z long code = rw (long, code) refl

plain-again : (kind : Kind) (number : ℕ) (flags : NlmF) (s : List ℕ) (u : NlPayload ℕ (List ℕ))
    → payload_zeroed kind s ≡ s → payload_in same all number flags s ≡ Ok u
    → IsAgain number flags s (payload_zeroed kind s) u
plain-again kind number flags s u is e = record {
  long = ap length is;
  reads = ap (payload_in same all number flags) is ∙ e;
}

dump_end-reads : (t : List ℕ) (attrs : Attributes) → 4 ≤ length t → ext_ack_in (drop 4 t) ≡ Ok attrs
    → dump_end_in t ≡ Ok (answer (code_in t) tt attrs)
dump_end-reads t attrs long lists = rw (le-ltb (length t) 4 long, lists) refl

dump_end-again : (number : ℕ) (flags : NlmF) (s : List ℕ) (u : NlPayload ℕ (List ℕ)) → kind_of number flags s ≡ DumpEnd
    → payload_as same all DumpEnd s ≡ Ok u → IsAgain number flags s (payload_zeroed DumpEnd s) u
dump_end-again number flags s u kind e =
    let b = bind_ok (dump_end_in s) _ u e in
    let r = bind_ok (after 4 s) _ b.0 b.1 in
    let g = guard_ok (ltb (length s) 4) (InvalidInput (length s)) _ r.0 r.1 in
    let long : 4 ≤ length s = ltb-false _ _ g.0 in
    let rest : drop 4 s ≡ r.0 = ok_is (drop 4 s) r.0 g.1 in
    let x = bind_ok (ext_ack_in r.0) _ b.0 r.2 in
    let known : answer (code_in s) tt x.0 ≡ b.0 = ok_is _ b.0 x.2 in
    let again = attributes-again (drop 4 s) x.0 (ap ext_ack_in rest ∙ x.1) in
    let a : List ℕ = attributes_zeroed (drop 4 s) in
    let z : List ℕ = take 4 s ++ a in
    let four : length (take 4 s) ≡ 4 = length-take-le 4 s long in
    let front : zeros_from 4 (take 4 s) ≡ take 4 s = rw (take-take 4 4 s (omega arith), four) (append-nil (take 4 s)) in
    let is : payload_zeroed DumpEnd s ≡ z = ap (λ (y : List ℕ). y ++ a) front in
    let sized : length z ≡ length s = omega (arith, length-append (take 4 s) a, four, again.1, length-drop 4 s) in
    let code : number_in 4 0 z ≡ number_in 4 0 s = number-same 4 0 4 s a (omega arith) long in
    let codes : code_in z ≡ code_in s = ap (cast_signed w32) code in
    let after_code : drop 4 z ≡ a = drop_at (take 4 s) a 4 four in
    let reads : dump_end_in z ≡ Ok b.0 = dump_end-reads z x.0 (omega (arith, sized)) (ap ext_ack_in after_code
    ∙ again.0) ∙ ap (λ c. dump_end_of c x.0) codes ∙ ap whole known in
    let here : payload_as same all DumpEnd z ≡ Ok u = rw reads b.2 in
    let kinds : kind_of number flags z ≡ DumpEnd = kind-same number flags s z sized code ∙ kind in
    let one : IsAgain number flags s z u = record {
      long = sized;
      reads = ap (λ (k : Kind). payload_as same all k z) kinds ∙ here;
    } in
    subst (λ (y : List ℕ). IsAgain number flags s y u) (sym is) one
  where
    whole : Nlmsgerr (Unit {0}) → Result (Nlmsgerr (Unit {0})) DeError
    whole x = Ok x

    dump_end_of : ℤ → Attributes → Result (Nlmsgerr (Unit {0})) DeError
    dump_end_of c attrs = Ok (answer c tt attrs)

failure-reads : (t body : List ℕ) (attrs : Attributes) → 20 ≤ length t → 16 ≤ echoed_length t
    → echoed_count t ≤ length t - 20 → take (echoed_count t) (drop 20 t) ≡ body → ext_ack_in (after_echo t) ≡ Ok attrs
    → failure_in same all t ≡ Ok (answer (code_in t) (echo_with same t body) attrs)
failure-reads t body attrs long least there is lists =
    rw (
      le-ltb (length t) 20 long,
      le-ltb (echoed_length t) 16 least,
      le-ltb (length t - 20) (echoed_count t) there,
      is,
      lists,
    ) refl

-- the header is in the first 16 bytes
header-same : (s z : List ℕ) → 16 ≤ length s → 16 ≤ length z → take 16 z ≡ take 16 s
    → header_in same z ≡ header_in same s
header-same s z long enough is =
    let placed = layout_with-placed same (λ (h : Header ℕ). all) in
    sym (placed.own z enough) ∙ ap (header_in same) is ∙ placed.own s long

failure-again : (number : ℕ) (flags : NlmF) (s : List ℕ) (u : NlPayload ℕ (List ℕ)) → kind_of number flags s ≡ Failure
    → payload_as same all Failure s ≡ Ok u → IsAgain number flags s (payload_zeroed Failure s) u
failure-again number flags s u kind e =
    let b = bind_ok (failure_in same all s) _ u e in
    let r = bind_ok (after 20 s) _ b.0 b.1 in
    let g = guard_ok (ltb (length s) 20) (InvalidInput (length s)) _ r.0 r.1 in
    let long : 20 ≤ length s = ltb-false _ _ g.0 in
    let h = bind_ok (echoed_in s) _ b.0 r.2 in
    let g1 = guard_ok (ltb (echoed_length s) 16) (InvalidInput (echoed_length s)) _ h.0 h.1 in
    let g2 = guard_ok (ltb (length s - 20) (echoed_count s)) (InvalidInput (echoed_count s)) _ h.0 g1.1 in
    let c = echoed_count s in
    let least : 16 ≤ echoed_length s = ltb-false _ _ g1.0 in
    let there : c ≤ length s - 20 = ltb-false _ _ g2.0 in
    let echoed : take c (drop 20 s) ≡ h.0 = ok_is (take c (drop 20 s)) h.0 g2.1 in
    let x = bind_ok (ext_ack_in (after_echo s)) _ b.0 h.2 in
    let known : answer (code_in s) (echo_with same s h.0) x.0 ≡ b.0 = ok_is _ b.0 x.2 in
    let again = attributes-again (after_echo s) x.0 x.1 in
    let a : List ℕ = attributes_zeroed (after_echo s) in
    let zeros : List ℕ = replicate (length (take (echo_end s) s) - (20 + c)) 0 in
    let z : List ℕ = take (20 + c) s ++ (zeros ++ a) in
    let is : payload_zeroed Failure s ≡ z = ap (λ (y : List ℕ). (y ++ zeros) ++ a)
    (take-take (20 + c) (echo_end s) s (omega arith)) ∙ append_assoc (take (20 + c) s) zeros a in
    let front : length (take (20 + c) s) ≡ 20 + c = length-take-le (20 + c) s (omega arith) in
    let parts : length (take (echo_end s) s) + length (drop (echo_end s) s) ≡ length s =
    sym (length-append (take (echo_end s) s) (drop (echo_end s) s)) ∙ ap length (take-append-drop (echo_end s) s) in
    let dropped = length-drop (echo_end s) s in
    let counted : length zeros ≡ length (take (echo_end s) s) - (20 + c) =
    length-replicate {A = ℕ} (length (take (echo_end s) s) - (20 + c)) 0 in
    let both : length z ≡ 20 + c + (length zeros + length a) =
    omega (arith, length-append (take (20 + c) s) (zeros ++ a), length-append zeros a, front) in
    let sized : length z ≡ length s = omega (arith, both, counted, again.1, parts, dropped) in
    let code : number_in 4 0 z ≡ number_in 4 0 s = number-same 4 0 (20 + c) s (zeros ++ a) (omega arith)
    (omega arith) in
    let lens : number_in 4 4 z ≡ number_in 4 4 s = number-same 4 4 (20 + c) s (zeros ++ a) (omega arith)
    (omega arith) in
    let count : echoed_count z ≡ c = ap (λ (k : ℕ). k - 16) lens in
    let body : take (echoed_count z) (drop 20 z) ≡ h.0 = ap (λ (k : ℕ). take k (drop 20 z)) count
    ∙ part-same (20 + c) 20 c s (zeros ++ a) (omega arith) (omega arith) ∙ echoed in
    let end : echo_end z ≡ echo_end s = ap (λ (k : ℕ). 20 + align k) count in
    let attributes : drop (echo_end s) z ≡ a = elim (cases_lt (length s) (echo_end s)) [
      | inl few ↦ drop_all (echo_end s) z (omega (arith, sized))
          ∙ sym (nil_from_length a (omega (arith, again.1, dropped)))
      | inr enough ↦ ap (λ (y : List ℕ). drop (echo_end s) y) (sym (append_assoc (take (20 + c) s) zeros a))
          ∙ drop_at (take (20 + c) s ++ zeros) a (echo_end s)
          (omega (arith, length-append (take (20 + c) s) zeros, front, counted, parts, dropped))
    ] in
    let lists : ext_ack_in (after_echo z) ≡ Ok x.0 = ap (λ (k : ℕ). ext_ack_in (drop k z)) end
    ∙ ap ext_ack_in attributes ∙ again.0 in
    let codes : code_in z ≡ code_in s = ap (cast_signed w32) code in
    let headers : header_in same (drop 4 z) ≡ header_in same (drop 4 s) =
    header-same (drop 4 s) (drop 4 z) (omega (arith, length-drop 4 s)) (omega (arith, length-drop 4 z, sized))
    (part-same (20 + c) 4 16 s (zeros ++ a) (omega arith) (omega arith)) in
    let reads : failure_in same all z ≡ Ok b.0 = failure-reads z h.0 x.0 (omega (arith, sized)) (omega (arith, lens))
    (omega (arith, count, sized)) body lists ∙ ap (λ k. failure_of k (header_in same (drop 4 z)) h.0 x.0) codes
    ∙ ap (λ k. failure_of (code_in s) k h.0 x.0) headers ∙ ap whole known in
    let here : payload_as same all Failure z ≡ Ok u = rw reads b.2 in
    let kinds : kind_of number flags z ≡ Failure = kind-same number flags s z sized code ∙ kind in
    let one : IsAgain number flags s z u = record {
      long = sized;
      reads = ap (λ (k : Kind). payload_as same all k z) kinds ∙ here;
    } in
    subst (λ (y : List ℕ). IsAgain number flags s y u) (sym is) one
  where
    whole : Nlmsgerr (NlmsghdrErr ℕ (List ℕ)) → Result (Nlmsgerr (NlmsghdrErr ℕ (List ℕ))) DeError
    whole x = Ok x

    failure_of : ℤ → Header ℕ → List ℕ → Attributes → Result (Nlmsgerr (NlmsghdrErr ℕ (List ℕ))) DeError
    failure_of c h body attrs = Ok (answer c (record { header = h; payload = record { 0 = body } }) attrs)

-- ---- answers that echo only a header

headed-reads : (t : List ℕ) (attrs : Attributes) → 20 ≤ length t → ext_ack_in (drop 20 t) ≡ Ok attrs
    → headed_in same Listed t ≡ Ok (answer (code_in t) (header_in same (drop 4 t)) attrs)
headed-reads t attrs long lists = rw (le-ltb (length t) 20 long, lists) refl

-- with zeros for the padding of its attributes it is read as the same answer, and its code is the same
record IsHeadAgain (s z : List ℕ) (x : Nlmsgerr (Header ℕ)) : Type 0 where
  long : length z ≡ length s
  code : number_in 4 0 z ≡ number_in 4 0 s
  reads : headed_in same Listed z ≡ Ok x

head-again : (s : List ℕ) (x : Nlmsgerr (Header ℕ)) → headed_in same Listed s ≡ Ok x
    → IsHeadAgain s (payload_zeroed (Acknowledgement Listed) s) x
head-again s x e =
    let r = bind_ok (after 20 s) _ x e in
    let g = guard_ok (ltb (length s) 20) (InvalidInput (length s)) _ r.0 r.1 in
    let long : 20 ≤ length s = ltb-false _ _ g.0 in
    let rest : drop 20 s ≡ r.0 = ok_is (drop 20 s) r.0 g.1 in
    let t = bind_ok (ext_ack_in r.0) _ x r.2 in
    let known : answer (code_in s) (header_in same (drop 4 s)) t.0 ≡ x = ok_is _ x t.2 in
    let again = attributes-again (drop 20 s) t.0 (ap ext_ack_in rest ∙ t.1) in
    let a : List ℕ = attributes_zeroed (drop 20 s) in
    let z : List ℕ = take 20 s ++ a in
    let twenty : length (take 20 s) ≡ 20 = length-take-le 20 s long in
    let front : zeros_from 20 (take 20 s) ≡ take 20 s =
    rw (take-take 20 20 s (omega arith), twenty) (append-nil (take 20 s)) in
    let is : payload_zeroed (Acknowledgement Listed) s ≡ z = ap (λ (y : List ℕ). y ++ a) front in
    let sized : length z ≡ length s = omega (arith, length-append (take 20 s) a, twenty, again.1, length-drop 20 s) in
    let code : number_in 4 0 z ≡ number_in 4 0 s = number-same 4 0 20 s a (omega arith) long in
    let codes : code_in z ≡ code_in s = ap (cast_signed w32) code in
    let after_head : drop 20 z ≡ a = drop_at (take 20 s) a 20 twenty in
    let headers : header_in same (drop 4 z) ≡ header_in same (drop 4 s) =
    header-same (drop 4 s) (drop 4 z) (omega (arith, length-drop 4 s)) (omega (arith, length-drop 4 z, sized))
    (part-same 20 4 16 s a (omega arith) long) in
    let reads : headed_in same Listed z ≡ Ok x = headed-reads z t.0 (omega (arith, sized)) (ap ext_ack_in after_head
    ∙ again.0) ∙ ap (λ c. headed_of c (header_in same (drop 4 z)) t.0) codes
    ∙ ap (λ k. headed_of (code_in s) k t.0) headers ∙ ap whole known in
    let one : IsHeadAgain s z x = record { long = sized; code = code; reads = reads } in
    subst (λ (y : List ℕ). IsHeadAgain s y x) (sym is) one
  where
    whole : Nlmsgerr (Header ℕ) → Result (Nlmsgerr (Header ℕ)) DeError
    whole x = Ok x

    headed_of : ℤ → Header ℕ → Attributes → Result (Nlmsgerr (Header ℕ)) DeError
    headed_of c h attrs = Ok (answer c h attrs)

-- as an acknowledgement, or as a capped error
abbrev made : (Nlmsgerr (Header ℕ) → NlPayload ℕ (List ℕ)) → Nlmsgerr (Header ℕ) → Result (NlPayload ℕ (List ℕ)) DeError
made make x = Ok (make x)

headed-again : (kind : Kind) (make : Nlmsgerr (Header ℕ) → NlPayload ℕ (List ℕ))
    → ((t : List ℕ) → payload_as same all kind t ≡ (headed_in same Listed t >>= made make))
    → (number : ℕ) (flags : NlmF) (s : List ℕ) (u : NlPayload ℕ (List ℕ)) → kind_of number flags s ≡ kind
    → payload_as same all kind s ≡ Ok u → IsAgain number flags s (payload_zeroed (Acknowledgement Listed) s) u
headed-again kind make read number flags s u is e =
    let b = bind_ok (headed_in same Listed s) (made make) u (sym (read s) ∙ e) in
    let h = head-again s b.0 b.1 in
    let z : List ℕ = payload_zeroed (Acknowledgement Listed) s in
    let here : (headed_in same Listed z >>= made make) ≡ Ok u = rw h.reads b.2 in
    let kinds : kind_of number flags z ≡ kind = kind-same number flags s z h.long h.code ∙ is in
    record {
      long = h.long;
      reads = ap (λ (k : Kind). payload_as same all k z) kinds ∙ read z ∙ here;
    }

payload-again : (number : ℕ) (flags : NlmF) (s : List ℕ) (u : NlPayload ℕ (List ℕ))
    → payload_in same all number flags s ≡ Ok u → IsAgain number flags s (payload_zeroed (kind_of number flags s) s) u
payload-again number flags s u e = by (kind_of number flags s) refl e
  where
    by : (kind : Kind) → kind_of number flags s ≡ kind → payload_as same all kind s ≡ Ok u
        → IsAgain number flags s (payload_zeroed kind s) u
    by Body is reads = plain-again Body number flags s u (whole-zeroed s) e
    by Nothing is reads = plain-again Nothing number flags s u (whole-zeroed s) e
    by DumpEnd is reads = dump_end-again number flags s u is reads
    by (Acknowledgement Unread) is reads = plain-again (Acknowledgement Unread) number flags s u (whole-zeroed s) e
    by (Acknowledgement Listed) is reads =
        headed-again (Acknowledgement Listed) payload.Ack (λ t. refl) number flags s u is reads
    by (Capped Unread) is reads = plain-again (Capped Unread) number flags s u (whole-zeroed s) e
    by (Capped Listed) is reads =
        headed-again (Capped Listed) payload.Capped (λ t. refl) number flags s u is reads
    by Failure is reads = failure-again number flags s u is reads

-- ---- messages

message-again : (frame : List ℕ) (m : Message ℕ (List ℕ)) → IsFrame untyped_layout frame m.0 m.1
    → IsFrame untyped_layout (message_zeroed frame) m.0 m.1
message-again frame m is = subst Q is.header_is there is.least is.whole is.payload_is
  where
    Q : Header ℕ → Type 0
    Q h = 16 ≤ h.len → length frame ≡ align h.len → payload_in same all h.message_type h.flags
        (take (h.len - 16) (drop 16 frame)) ≡ Ok m.1 → IsFrame untyped_layout (message_zeroed frame) h m.1

    there : Q (header_in same frame)
    there least whole reads =
        let n = number_in 4 0 frame in
        let body : List ℕ = take (n - 16) (drop 16 frame) in
        let sized : length body ≡ n - 16 = length-take-le (n - 16) (drop 16 frame)
        (omega (arith, whole, length-drop 16 frame)) in
        let again = payload-again (number_in 2 4 frame) (flags_of (number_in 2 6 frame)) body m.1 reads in
        let p : List ℕ = payload_zeroed (kind_of (number_in 2 4 frame) (flags_of (number_in 2 6 frame)) body) body in
        let zeros : List ℕ = replicate (length frame - n) 0 in
        let front : length (take 16 frame) ≡ 16 = length-take-le 16 frame (omega (arith, whole)) in
        let grouped : message_zeroed frame ≡ take 16 frame ++ (p ++ zeros) = append_assoc (take 16 frame) p zeros in
        let long : length (message_zeroed frame) ≡ length frame =
        omega (
          arith,
          ap length grouped,
          length-append (take 16 frame) (p ++ zeros),
          length-append p zeros,
          front,
          again.long,
          sized,
          length-replicate {A = ℕ} (length frame - n) 0,
          whole,
        ) in
        let head : take 16 (message_zeroed frame) ≡ take 16 frame = ap (λ (x : List ℕ). take 16 x) grouped
        ∙ take_at (take 16 frame) (p ++ zeros) 16 front in
        let after : drop 16 (message_zeroed frame) ≡ p ++ zeros = ap (λ (x : List ℕ). drop 16 x) grouped
        ∙ drop_at (take 16 frame) (p ++ zeros) 16 front in
        let inner : take (n - 16) (drop 16 (message_zeroed frame)) ≡ p = ap (λ (x : List ℕ). take (n - 16) x) after
        ∙ take_at p zeros (n - 16) (again.long ∙ sized) in
        record {
          header_is = header-same frame (message_zeroed frame) (omega (arith, whole)) (omega (arith, long, whole)) head;
          least = least;
          whole = long ∙ whole;
          payload_is = ap (payload_in same all (number_in 2 4 frame) (flags_of (number_in 2 6 frame))) inner
              ∙ again.reads;
        }

-- the messages of a datagram are those of the datagram with zeros for padding
pub datagram-again : (b : List ℕ) (ms : List (Message ℕ (List ℕ))) → AreFrames untyped_layout b ms
    → AreFrames untyped_layout (datagram_zeroed b) ms
datagram-again b ms are =
    frames-again untyped_layout message_length message_zeroed message-states message-again (length b) b ms
    (omega arith) are

-- it has as many bytes
pub datagram-length : (b : List ℕ) (ms : List (Message ℕ (List ℕ))) → AreFrames untyped_layout b ms
    → length (datagram_zeroed b) ≡ length b
datagram-length b ms are =
    frames-length untyped_layout message_length message_zeroed message-states
    (λ frame m is. (message-again frame m is).whole ∙ sym is.whole) (length b) b ms (omega arith) are
