-- Acknowledgements and errors, as a router stores and delivers them.
use Rattle.std.proofs.Common.{◌≡◌, ◌≢◌, ℕ, ◌+◌, ◌-◌, ◌<◌, All, Bool, true, false, ltb, List, [], ◌∷◌, ◌++◌, length}
use Rattle.std.proofs.Common.{take, drop, None, Result, Ok, refl, sym, ap, ◌∙◌, append_assoc, arith, length-append}
use Rattle.std.specs.Prelude.{◌&&◌, ℤ, pos, FitsSigned, nat_eq, nat_le, replicate}
use Rattle.std.specs.Int.{w32, cast_signed, cast_unsigned}
use Rattle.std.proofs.Math.Facts.{Fits-of_z}
use Rattle.std.proofs.lemmas.Bool.{le-leb, le-ltb, ne_eqb}
use Rattle.std.proofs.lemmas.Int.{fits_signed_from_abs, to_z-of_z}
use Rattle.std.proofs.lemmas.List.{append-nil, drop_at, length-replicate, take_at}
use Rattle.std.proofs.lemmas.List.Elements.{All-nil, All-push}
use Rattle.byteorder.specs.Numbers.{little_number-reads_back}
use Rattle.neli_wire.specs.declared.errors.DeError.{DeError}
use Rattle.neli_wire.specs.Frames.{number_in}
use Rattle.neli_wire.specs.Numbers.{signed_bytes}
use Rattle.neli_wire.specs.Reading.{◌>>=◌}
use Rattle.neli_wire.specs.Sizes.{align, gap}
use Rattle.neli_wire.specs.Writing.{Wire, ◌+++◌, zeros_for}
use Rattle.neli_wire.specs.laws.Numbers.{count-signed}
use Rattle.neli_consts.specs.declared.nlm_f.NlmF.{NlmF}
use Rattle.neli_reader.specs.Agreement.{untyped_layout}
use Rattle.neli_reader.specs.Answers.{Attributes, after, after_echo, answer, code_in, echo_with, echoed_count}
use Rattle.neli_reader.specs.Answers.{echoed_in, echoed_length, ext_ack_in, failure_in, headed_in, tail_in}
use Rattle.neli_reader.specs.Cuts.{cut_of}
use Rattle.neli_reader.specs.Headers.{Header, flags_of, header_in, header_wire}
use Rattle.neli_reader.specs.Kinds.{is_acknowledged, payload_in, tail_of}
use Rattle.neli_reader.specs.NlPayload.{NlPayload}
use Rattle.neli_reader.specs.Framed.{NlmsghdrErr}
use Rattle.neli_reader.specs.Nlmsgerr.{Nlmsgerr}
use Rattle.neli_reader.specs.NlPayload.TheVariants as payload
use Rattle.neli_reader.specs.Wires.{answer_wire, payload_wire}
use Rattle.neli_reader.specs.laws.Headers.{fields-length}
use Rattle.neli_lent.specs.Messages.{messages_in}
use Rattle.neli_lent.specs.Written.{HeaderFits}
use Rattle.neli_lent.specs.laws.Headers.{fields, header-read}
use Rattle.neli_deliveries.specs.Deliveries.{Untyped}
use Rattle.neli_kernel.specs.declared.request.Request.{Request}
use Rattle.neli_kernel.specs.Answers.{acknowledgement, answer_flags, answer_with, capped_error, error}
use Rattle.neli_kernel.specs.Delivered.{AreReadBack, IsAnswer, IsDelivered, IsFor, untyped}
use Rattle.neli_kernel.proofs.Answers.{one-answer}
use Rattle.neli_kernel.proofs.ExtAcks.{whole-words}
use Rattle.neli_kernel.proofs.Delivered.{cut-untyped, share-asker, share-other, written-same}

abbrev same : ℕ → ℕ
same n = n

abbrev as_bytes : List ℕ → Result (List ℕ) DeError
as_bytes b = Ok b

-- ---- a code and an echoed header

-- and what follows them
abbrev text : ℤ → Header ℕ → List ℕ → List ℕ
text code h rest = signed_bytes w32 4 code ++ (fields h ++ rest)

text-length : (code : ℤ) (h : Header ℕ) (rest : List ℕ) → length (text code h rest) ≡ 20 + length rest
text-length code h rest = omega (
  arith,
  length-append (signed_bytes w32 4 code) (fields h ++ rest),
  length-append (fields h) rest,
  count-signed w32 4 refl code,
  fields-length same h,
)

number-read : (code : ℤ) (h : Header ℕ) (rest : List ℕ) → FitsSigned w32 code
    → number_in 4 0 (text code h rest) ≡ cast_unsigned w32 code
number-read code h rest fits = let low = Fits-of_z fits in
    little_number-reads_back 4 (cast_unsigned w32 code) (fields h ++ rest) low.fits

echo-read : (code : ℤ) (h : Header ℕ) (rest : List ℕ) → HeaderFits h → header_in same (drop 4 (text code h rest)) ≡ h
echo-read code h rest fits = header-read h (drop 4 (text code h rest)) rest fits
    (drop_at (signed_bytes w32 4 code) (fields h ++ rest) 4 (count-signed w32 4 refl code))

text-rest : (code : ℤ) (h : Header ℕ) (rest : List ℕ) → drop 20 (text code h rest) ≡ rest
text-rest code h rest =
    ap (drop 20) (sym (append_assoc (signed_bytes w32 4 code) (fields h) rest))
    ∙ drop_at (signed_bytes w32 4 code ++ fields h) rest 20
    (omega (
      arith,
      length-append (signed_bytes w32 4 code) (fields h),
      count-signed w32 4 refl code,
      fields-length same h,
    ))

zero-fits : FitsSigned w32 (pos 0)
zero-fits = fits_signed_from_abs w32 (pos 0) (omega arith)

some-code : (code : ℤ) → FitsSigned w32 code → code ≢ pos 0 → nat_eq (cast_unsigned w32 code) 0 ≡ false
some-code code fits not = ne_eqb _ _ (λ e. not (sym (to_z-of_z w32 code fits) ∙ ap (cast_signed w32) e))

-- the attributes after an echoed header are read if there are some, and there are none if they are not read
tail-read : (attrs : Attributes) (extra : List ℕ) → AreReadBack attrs extra
    → tail_in (tail_of (answer_flags (flags_of 256) attrs)) extra ≡ Ok attrs
tail-read [] extra back = refl
tail-read (a ∷ attrs) extra back = back.read

abbrev Read : Type 0
Read = Result (NlPayload ℕ (List ℕ)) DeError

-- the reading of such bytes, if they are no acknowledgement
capped-as : (attrs : Attributes) (s : List ℕ) (r : Read) → is_acknowledged s ≡ false
    → (headed_in same (tail_of (answer_flags (flags_of 256) attrs)) s >>= λ e. Ok (payload.Capped e)) ≡ r
    → payload_in same as_bytes 2 (answer_flags (flags_of 256) attrs) s ≡ r
capped-as [] s r other is = rw other is
capped-as (a ∷ attrs) s r other is = rw other is

whole-as : (attrs : Attributes) (s : List ℕ) (r : Read) → is_acknowledged s ≡ false
    → (failure_in same as_bytes s >>= λ e. Ok (payload.Err e)) ≡ r
    → payload_in same as_bytes 2 (answer_flags (flags_of 0) attrs) s ≡ r
whole-as [] s r other is = rw other is
whole-as (a ∷ attrs) s r other is = rw other is

not-both : (b : Bool) → b && false ≡ false
not-both true = refl
not-both false = refl

-- bytes of such a code and header, and those after them
module _ (s rest : List ℕ) (attrs : Attributes) (code : ℤ) (h : Header ℕ) (long : length s ≡ 20 + length rest)
    (rest_is : drop 20 s ≡ rest) (number : number_in 4 0 s ≡ cast_unsigned w32 code)
    (echo : header_in same (drop 4 s) ≡ h) (fits : FitsSigned w32 code) where
  code-read : code_in s ≡ code
  code-read = ap (cast_signed w32) number ∙ to_z-of_z w32 code fits

  after-header : after 20 s ≡ Ok rest
  after-header = let enough : ltb (length s) 20 ≡ false = le-ltb _ _ (omega (arith, long)) in rw (enough, rest_is) refl

  abbrev with_tail : Attributes → Result (Nlmsgerr (Header ℕ)) DeError
  with_tail list = Ok (answer (code_in s) (header_in same (drop 4 s)) list)

  headed-read : (flags : NlmF) → tail_in (tail_of flags) rest ≡ Ok attrs
      → headed_in same (tail_of flags) s ≡ Ok (answer code h attrs)
  headed-read flags tail =
      ap (λ (r : Result (List ℕ) DeError). r >>= λ more. tail_in (tail_of flags) more
      >>= λ list. with_tail list) after-header
      ∙ ap (λ (r : Result Attributes DeError). r >>= λ list. with_tail list) tail
      ∙ ap (λ (c : ℤ). Ok (answer c (header_in same (drop 4 s)) attrs)) code-read
      ∙ ap (λ (e : Header ℕ). Ok (answer code e attrs)) echo

  -- it is an acknowledgement if the code is 0
  told : (zero : Bool) → nat_eq (cast_unsigned w32 code) 0 ≡ zero → is_acknowledged s ≡ zero
  told zero is =
      let enough : nat_le 20 (length s) ≡ true = le-leb _ _ (omega (arith, long)) in
      ap (λ (b : Bool). b && nat_eq (number_in 4 0 s) 0) enough ∙ ap (λ (n : ℕ). nat_eq n 0) number ∙ is

  ack-read : (flags : NlmF) → tail_in (tail_of flags) rest ≡ Ok attrs → nat_eq (cast_unsigned w32 code) 0 ≡ true
      → payload_in same as_bytes 2 flags s ≡ Ok (payload.Ack (answer code h attrs))
  ack-read flags tail zero =
      let acknowledged : is_acknowledged s ≡ true = told true zero in
      rw acknowledged (ap (λ (r : Result (Nlmsgerr (Header ℕ)) DeError). r >>= λ e. Ok (payload.Ack e))
      (headed-read flags tail))

  capped-read : tail_in (tail_of (answer_flags (flags_of 256) attrs)) rest ≡ Ok attrs
      → nat_eq (cast_unsigned w32 code) 0 ≡ false → payload_in same as_bytes 2 (answer_flags (flags_of 256) attrs) s
      ≡ Ok (payload.Capped (answer code h attrs))
  capped-read tail some =
      capped-as attrs s (Ok (payload.Capped (answer code h attrs))) (told false some)
      (ap (λ (r : Result (Nlmsgerr (Header ℕ)) DeError). r >>= λ e. Ok (payload.Capped e))
      (headed-read (answer_flags (flags_of 256) attrs) tail))

-- ---- an answer whose payload is read back from its bytes

module _ (asked : Request) (n : ℕ) (attrs : Attributes) (p : NlPayload ℕ (List ℕ)) (t bytes : List ℕ)
    (small : n < 65536) (written : payload_wire same (λ b. Ok b) p ≡ Ok t) (full : gap (16 + length t) ≡ 0)
    (read : payload_in same as_bytes 2 (answer_flags (flags_of n) attrs) t ≡ Ok p)
    (is : IsAnswer asked (answer_with asked (answer_flags (flags_of n) attrs) p) bytes) where
  abbrev flags : NlmF
  flags = answer_flags (flags_of n) attrs

  abbrev head : Header ℕ
  head = (answer_with asked flags p).header

  abbrev own : Untyped
  own = (head, p)

  padded : t ++ zeros_for (16 + length t) ≡ t
  padded = ap (λ (k : ℕ). t ++ replicate k 0) full ∙ append-nil t

  answer-cut : cut_of untyped_layout bytes ≡ (own ∷ [], None)
  answer-cut =
      let one = one-answer asked n attrs p bytes small (is.header_fits.sequence_number, is.port_fits) is.bytes_are in
      let texts : t ≡ one.0 = written-same (payload_wire same (λ b. Ok b) p) t one.0 written one.1 in
      let walked : messages_in same bytes ≡ ((head, t) ∷ [], None) = one.2
      ∙ ap (λ (s : List ℕ). ((head, s ++ zeros_for (16 + length s)) ∷ [], None)) (sym texts)
      ∙ ap (λ (s : List ℕ). ((head, s) ∷ [], None)) padded in
      let kept : untyped (head, t) ≡ Ok own = ap (λ (r : Result (NlPayload ℕ (List ℕ)) DeError). r >>= λ v. Ok (
        head,
        v,
      )) read in
      cut-untyped bytes ((head, t) ∷ []) (own ∷ []) (ap (λ (r : Result Untyped DeError). r ∷ []) kept) walked

  answer-for : All (IsFor asked.header.sequence_number asked.port) (own ∷ [])
  answer-for = All-push (IsFor asked.header.sequence_number asked.port) [] own
      (All-nil (IsFor asked.header.sequence_number asked.port)) (refl, refl)

  answer-delivered : IsDelivered asked (answer_with asked flags p) bytes
  answer-delivered = record {
    one_message = answer-cut;
    asker = λ is_open opened. share-asker asked.header.sequence_number asked.port is_open opened bytes
        (own ∷ []) answer-for answer-cut;
    others = λ is_open opened other differs. share-other asked.header.sequence_number asked.port is_open opened other
        bytes (own ∷ []) differs answer-for answer-cut;
  }

-- ---- acknowledgements and capped errors

module _ (asked : Request) (attrs : Attributes) (extra bytes : List ℕ) (back : AreReadBack attrs extra) where
  abbrev echoed : ℤ → List ℕ
  echoed code = text code asked.header extra

  echoed-written : (code : ℤ) → answer_wire (header_wire same) (answer code asked.header attrs) ≡ Ok (echoed code)
  echoed-written code =
      ap (λ (w : Wire). Ok (signed_bytes w32 4 code ++ fields asked.header) +++ w) back.written
      ∙ ap (λ (b : List ℕ). Ok b) (append_assoc (signed_bytes w32 4 code) (fields asked.header) extra)

  echoed-full : (code : ℤ) → gap (16 + length (echoed code)) ≡ 0
  echoed-full code = omega (arith, text-length code asked.header extra, whole-words attrs extra back.written)

  pub acknowledgement-delivered : IsAnswer asked (acknowledgement asked attrs) bytes
      → IsDelivered asked (acknowledgement asked attrs) bytes
  acknowledgement-delivered is =
      let read = ack-read (echoed (pos 0)) extra attrs (pos 0) asked.header (text-length (pos 0) asked.header extra)
      (text-rest (pos 0) asked.header extra) (number-read (pos 0) asked.header extra zero-fits)
      (echo-read (pos 0) asked.header extra is.header_fits) zero-fits (answer_flags (flags_of 256) attrs)
      (tail-read attrs extra back) refl in
      answer-delivered asked 256 attrs (acknowledgement asked attrs).payload (echoed (pos 0)) bytes (omega arith)
      (echoed-written (pos 0)) (echoed-full (pos 0)) read is

  pub capped-delivered : (code : ℤ) → code ≢ pos 0 → FitsSigned w32 code
      → IsAnswer asked (capped_error asked code attrs) bytes → IsDelivered asked (capped_error asked code attrs) bytes
  capped-delivered code not fits is =
      let read = capped-read (echoed code) extra attrs code asked.header (text-length code asked.header extra)
      (text-rest code asked.header extra) (number-read code asked.header extra fits)
      (echo-read code asked.header extra is.header_fits) fits (tail-read attrs extra back)
      (some-code code fits not) in
      answer-delivered asked 256 attrs (capped_error asked code attrs).payload (echoed code) bytes (omega arith)
      (echoed-written code) (echoed-full code) read is

-- ---- errors with the whole request

abbrev Whole : Type 0
Whole = Nlmsgerr (NlmsghdrErr ℕ (List ℕ))

-- an error of this code, which echoes a message of this header and these bytes
abbrev failure : ℤ → Header ℕ → List ℕ → Attributes → Whole
failure code h body attrs = answer code (record { header = h; payload = record { 0 = body } }) attrs

-- bytes of such a code, header and payload, of zeros, and of attributes
module _ (s : List ℕ) (code : ℤ) (h : Header ℕ) (body zeros extra : List ℕ) (attrs : Attributes)
    (number : number_in 4 0 s ≡ cast_unsigned w32 code) (echo : header_in same (drop 4 s) ≡ h)
    (fits : FitsSigned w32 code) (states : h.len ≡ 16 + length body)
    (size : length s ≡ 20 + align (length body) + length extra) (body_is : drop 20 s ≡ body ++ (zeros ++ extra))
    (extra_is : drop (20 + align (length body)) s ≡ extra) (lists : ext_ack_in extra ≡ Ok attrs) where
  stated : echoed_length s ≡ 16 + length body
  stated = ap (λ (e : Header ℕ). e.len) echo ∙ states

  count : echoed_count s ≡ length body
  count = ap (λ (n : ℕ). n - 16) stated ∙ omega arith

  after-fields : after 20 s ≡ Ok (drop 20 s)
  after-fields = let enough : ltb (length s) 20 ≡ false = le-ltb _ _ (omega (arith, size)) in rw enough refl

  echoed-read : echoed_in s ≡ Ok body
  echoed-read =
      let least : ltb (echoed_length s) 16 ≡ false = le-ltb _ _ (omega (arith, stated)) in
      let there : ltb (length s - 20) (echoed_count s) ≡ false = le-ltb _ _ (omega (arith, size, count)) in
      let front : take (echoed_count s) (drop 20 s) ≡ body = ap (λ (n : ℕ). take n (drop 20 s)) count
      ∙ ap (take (length body)) body_is ∙ take_at body (zeros ++ extra) (length body) refl in
      rw (least, there) (ap (λ (b : List ℕ). Ok b) front)

  more-read : ext_ack_in (after_echo s) ≡ Ok attrs
  more-read = ap ext_ack_in (ap (λ (n : ℕ). drop (20 + align n) s) count ∙ extra_is) ∙ lists

  abbrev whole_with : List ℕ → Attributes → Result Whole DeError
  whole_with v list = Ok (answer (code_in s) (echo_with same s v) list)

  failure-read : failure_in same as_bytes s ≡ Ok (failure code h body attrs)
  failure-read =
      ap (λ (r : Result (List ℕ) DeError). r >>= λ rest. echoed_in s >>= λ b. as_bytes b >>= λ v. ext_ack_in
      (after_echo s) >>= λ list. whole_with v list) after-fields
      ∙ ap (λ (r : Result (List ℕ) DeError). r >>= λ b. as_bytes b >>= λ v. ext_ack_in (after_echo s)
      >>= λ list. whole_with v list) echoed-read
      ∙ ap (λ (r : Result Attributes DeError). r >>= λ list. whole_with body list) more-read
      ∙ ap (λ (c : ℤ). Ok (failure c (header_in same (drop 4 s)) body attrs)) (ap (cast_signed w32) number
      ∙ to_z-of_z w32 code fits)
      ∙ ap (λ (e : Header ℕ). Ok (failure code e body attrs)) echo

  error-read : nat_eq (cast_unsigned w32 code) 0 ≡ false
      → payload_in same as_bytes 2 (answer_flags (flags_of 0) attrs) s ≡ Ok (payload.Err (failure code h body attrs))
  error-read some =
      let other : is_acknowledged s ≡ false = ap (λ (b : Bool). nat_le 20 (length s) && b)
      (ap (λ (n : ℕ). nat_eq n 0) number ∙ some) ∙ not-both (nat_le 20 (length s)) in
      whole-as attrs s (Ok (payload.Err (failure code h body attrs))) other
      (ap (λ (r : Result Whole DeError). r >>= λ e. Ok (payload.Err e)) failure-read)

pub error-delivered : (asked : Request) (code : ℤ) (attrs : Attributes) (extra bytes : List ℕ) → code ≢ pos 0
    → FitsSigned w32 code → asked.header.len ≡ 16 + length asked.payload.now → AreReadBack attrs extra
    → IsAnswer asked (error asked code attrs) bytes → IsDelivered asked (error asked code attrs) bytes
error-delivered asked code attrs extra bytes not fits states back is =
    let h : Header ℕ = asked.header in
    let body : List ℕ = asked.payload.now in
    let zeros : List ℕ = zeros_for (length (fields h ++ body)) in
    let front : List ℕ = signed_bytes w32 4 code ++ ((fields h ++ body) ++ zeros) in
    let rest : List ℕ = body ++ (zeros ++ extra) in
    let t : List ℕ = text code h rest in
    let lz : length zeros ≡ gap (16 + length body) = length-replicate {A = ℕ} (gap (length (fields h ++ body))) 0
    ∙ ap gap (length-append (fields h) body ∙ ap (λ (n : ℕ). n + length body) (fields-length same h)) in
    let size : length t ≡ 20 + align (length body) + length extra =
    omega (arith, text-length code h rest, length-append body (zeros ++ extra), length-append zeros extra, lz) in
    let full : gap (16 + length t) ≡ 0 = omega (arith, size, whole-words attrs extra back.written) in
    let in_parts : front ++ extra ≡ t = simp append_assoc in
    let long : length front ≡ 20 + align (length body) =
    omega (arith, size, ap length in_parts, length-append front extra) in
    let extra_is : drop (20 + align (length body)) t ≡ extra = ap (drop (20 + align (length body))) (sym in_parts)
    ∙ drop_at front extra (20 + align (length body)) long in
    let read = error-read t code h body zeros extra attrs (number-read code h rest fits)
    (echo-read code h rest is.header_fits) fits states size (text-rest code h rest) extra_is back.read
    (some-code code fits not) in
    let written : payload_wire same (λ b. Ok b) (error asked code attrs).payload ≡ Ok t =
    ap (λ (w : Wire). Ok front +++ w) back.written ∙ ap (λ (b : List ℕ). Ok b) in_parts in
    answer-delivered asked 0 attrs (error asked code attrs).payload t bytes (omega arith) written full read is
