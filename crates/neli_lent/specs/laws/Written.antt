-- Written messages, as a walk reads them.
use Rattle.std.proofs.Common.{◌≡◌, ℕ, ◌+◌, ◌-◌, List, [], ◌∷◌, ◌++◌, length, take, drop}
use Rattle.std.proofs.Common.{None, Ok, Err, refl, sym, ap, subst, ◌∙◌, append_assoc, arith, length-append}
use Rattle.std.proofs.lemmas.List.{append-nil, drop_at, length-replicate, take_at}
use Rattle.neli_wire.specs.Frames.{IsFrame, frame_at}
use Rattle.neli_wire.specs.Sizes.{align, gap}
use Rattle.neli_wire.specs.Writing.{Wire, ◌+++◌, pad_wire, zeros_for}
use Rattle.neli_wire.specs.laws.Frames.{frame_at-frame}
use Rattle.neli_wire.specs.laws.Lists.{both_written}
use Rattle.neli_reader.specs.Cuts.{Cut}
use Rattle.neli_reader.specs.Headers.{Header, header_wire}
use Rattle.neli_reader.specs.Framed.{Nlmsghdr}
use Rattle.neli_reader.specs.Wires.{message_wire, payload_size, payload_wire}
use Rattle.neli_reader.specs.laws.Cuts.{cut_of-end, cut_of-message}
use Rattle.neli_reader.specs.laws.Headers.{fields-length, header_wire-length}
use Rattle.neli_reader.specs.laws.Messages.{layout_with-placed}
use Rattle.neli_reader.specs.laws.Wires.{payload_wire-length}
use Rattle.neli_lent.specs.Messages.{Lent, lent_message, messages_in}
use Rattle.neli_lent.specs.Written.{HeaderFits, IsWalked, header_numbered}
use Rattle.neli_lent.specs.laws.Headers.{fields, header-read}

abbrev same : ℕ → ℕ
same n = n

-- ---- the bytes of a message

-- a header, a payload's bytes and zeros are a frame
frame-written : (h : Header ℕ) (body zeros : List ℕ) → HeaderFits h → h.len ≡ 16 + length body + length zeros
    → align h.len ≡ h.len → IsFrame (lent_message same) ((fields h ++ body) ++ zeros) h (body ++ zeros)
frame-written h body zeros fits long whole =
    let rest : List ℕ = body ++ zeros in
    let frame : List ℕ = (fields h ++ body) ++ zeros in
    let split : frame ≡ fields h ++ rest = append_assoc (fields h) body zeros in
    let front : length (fields h) ≡ 16 = fields-length same h in
    let behind : length rest ≡ length body + length zeros = length-append body zeros in
    let from16 : drop 16 frame ≡ rest = ap (drop 16) split ∙ drop_at (fields h) rest 16 front in
    let payload : take (h.len - 16) (drop 16 frame) ≡ rest = ap (take (h.len - 16)) (from16 ∙ sym (append-nil rest))
    ∙ take_at rest [] (h.len - 16) (omega arith) in
    record {
      header_is = header-read h frame rest fits split;
      least = omega arith;
      whole = ap (λ (s : List ℕ). length s) split ∙ omega (arith, length-append (fields h) rest, front);
      payload_is = ap (λ (s : List ℕ). Ok s) payload;
    }

-- one frame is a datagram of one message
one-frame : (s : List ℕ) (h : Header ℕ) (body : List ℕ) → IsFrame (lent_message same) s h body
    → messages_in same s ≡ ((h, body) ∷ [], None)
unfolding messages_in
one-frame s h body is =
    let layout = lent_message same in
    let placed = layout_with-placed same _ in
    let read : frame_at layout s ≡ Ok ((h, body), []) = ap (frame_at layout) (sym (append-nil s))
    ∙ frame_at-frame layout placed s [] h body is in
    cut_of-message layout placed (omega arith) s [] (h, body) read
    ∙ ap (λ (later : Cut (Lent ℕ)). ((h, body) ∷ later.0, later.1)) (cut_of-end layout placed (omega arith))

-- ---- messages

-- padded bytes
padded-parts : (w : Wire) (bytes : List ℕ) → pad_wire w ≡ Ok bytes
    → (text : List ℕ) × (w ≡ Ok text) × (text ++ zeros_for (length text) ≡ bytes)
padded-parts (Ok text) bytes h = (text, refl, (let e : text ++ zeros_for (length text) ≡ bytes = cc in e))
padded-parts (Err e) bytes h = absurd cc

header-bytes : {K : Type 0} (number_of : K → ℕ) (h : Header K) (bytes : List ℕ) → header_wire number_of h ≡ Ok bytes
    → fields (header_numbered number_of h) ≡ bytes
header-bytes number_of h bytes e = cc

-- a message that states its own length is walked as it was written
pub written-walked : {K P : Type 0} (number_of : K → ℕ) (wire : P → Wire) (size : P → ℕ)
    → ((p : P) (bytes : List ℕ) → wire p ≡ Ok bytes → length bytes ≡ size p) → (m : Nlmsghdr K P) (bytes : List ℕ)
    → HeaderFits (header_numbered number_of m.header) → m.header.len ≡ align (16 + payload_size size m.payload)
    → message_wire number_of wire m ≡ Ok bytes → IsWalked number_of wire m bytes
written-walked number_of wire size sized m bytes fits own written =
    let padded = padded-parts (header_wire number_of m.header
    +++ payload_wire number_of wire m.payload) bytes written in
    let both = both_written (header_wire number_of m.header)
    (payload_wire number_of wire m.payload) padded.0 padded.1 in
    let body : List ℕ = both.1 in
    let head = header-bytes number_of m.header both.0 both.2 in
    let long : length body ≡ payload_size size m.payload =
    payload_wire-length number_of wire size sized m.payload body both.3 in
    let h : Header ℕ = header_numbered number_of m.header in
    let zeros : List ℕ = zeros_for (16 + length body) in
    let lz : length zeros ≡ gap (16 + length body) = length-replicate {A = ℕ} (gap (16 + length body)) 0 in
    let frame = frame-written h body zeros fits (omega (arith, lz, long, own)) (omega (arith, own)) in
    let joined : fields h ++ body ≡ padded.0 = ap (λ (s : List ℕ). s ++ body) head ∙ sym both.4 in
    let size16 : length padded.0 ≡ 16 + length body = omega (
      arith,
      ap length both.4,
      length-append both.0 both.1,
      header_wire-length number_of m.header both.0 both.2,
    ) in
    let text : (fields h ++ body) ++ zeros ≡ bytes = ap (λ (s : List ℕ). s ++ zeros) joined
    ∙ ap (λ (n : ℕ). padded.0 ++ zeros_for n) (sym size16) ∙ padded.2 in (
      body,
      both.3,
      subst (λ (s : List ℕ). messages_in same s ≡ ((h, body ++ zeros) ∷ [], None)) text
          (one-frame _ h (body ++ zeros) frame),
    )
