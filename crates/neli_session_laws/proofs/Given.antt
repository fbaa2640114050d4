-- The simulator's answers are whole, and their verdicts.
use Rattle.std.proofs.Common.{ℕ, pos, negsuc, ◌≡◌, ◌≢◌, ◌+◌, Bool, true, false, not, ◌&&◌, ◌||◌, ltb, All, List, [], ◌∷◌, ◌++◌, length}
use Rattle.std.proofs.Common.{None, Ok, Err, refl, sym, subst, ap, ◌∙◌, arith, append_assoc, append-nil, inl, inr}
use Rattle.std.proofs.Common.{length-append}
use Rattle.std.specs.Prelude.{◌⊎◌, ◌==◌, ℤ, FitsSigned, bit_or, if◌then◌else◌}
use Rattle.std.specs.Int.{w32, cast_signed, cast_unsigned}
use Rattle.std.specs.Ordering.{int_eq}
use Rattle.std.proofs.Math.Facts.{Fits-of_z}
use Rattle.std.proofs.lemmas.Bool.{eq-eqb, le-ltb, ne_eqb}
use Rattle.std.proofs.lemmas.Bool.Decides.{Decides-int_eq}
use Rattle.std.proofs.lemmas.Int.{fits_signed_from_abs, to_z-of_z}
use Rattle.std.proofs.lemmas.List.Elements.{All-cons, All-head, All-nil, All-push, All-tail}
use Rattle.std.proofs.lemmas.Nat.{and_or_apart}
use Rattle.byteorder.specs.Numbers.{little_number-reads_back}
use Rattle.neli_wire.specs.Frames.{number_in}
use Rattle.neli_wire.specs.Numbers.{signed_bytes, signed_number}
use Rattle.neli_wire.specs.Writing.{Wire, ◌+++◌, zeros_for}
use Rattle.neli_wire.specs.laws.Numbers.{count-signed}
use Rattle.neli_answers.specs.Answers.{ends_answer, has_all, is_part, leaves_dump_running}
use Rattle.neli_answers.specs.declared.answering.Answering.{Answering}
use Rattle.neli_answers.specs.declared.answering.Answering.TheVariants as answered
use Rattle.neli_consts.specs.declared.nlm_f.NlmF.{NlmF}
use Rattle.neli_kernel.specs.Answers.{IsAddressed, acknowledgement, answer_flags, capped_error, error, message_or_refusal}
use Rattle.neli_kernel.specs.Datagrams.{AreRead}
use Rattle.neli_kernel.specs.Delivered.{AreReadBack, IsAnswer, IsEnd, end_said}
use Rattle.neli_kernel.specs.Dumps.{Packed, datagrams_of, dump_end, finished, with_multi}
use Rattle.neli_kernel.specs.declared.request.Request.{Request}
use Rattle.neli_lent.specs.Messages.{Lent, code_of, code_or_zero, messages_in}
use Rattle.neli_lent.specs.Written.{IsWalked}
use Rattle.neli_reader.specs.Answers.{Attributes}
use Rattle.neli_reader.specs.Cuts.{Cut}
use Rattle.neli_reader.specs.Framed.{Nlmsghdr}
use Rattle.neli_reader.specs.Headers.{flags_of, header_wire}
use Rattle.neli_reader.specs.Wires.{attributes_wire, echo_wire}
use Rattle.neli_session.specs.declared.request.Verdict.{Verdict}
use Rattle.neli_session.specs.declared.request.Verdict.TheVariants as stands
use Rattle.neli_session.specs.Requests.{ends, message_verdict, verdict_at}
use Rattle.neli_session.specs.Verdicts.{verdict_after}
use Rattle.neli_session.specs.Waiting.{Item, as_items}
use Rattle.neli_session.specs.Histories.{Receive}
use Rattle.neli_session.specs.Messages.{messages_of}
use Rattle.neli_session_laws.specs.Served.{brought, own_of}
use Rattle.neli_session_laws.specs.Answered.{IsWholeAnswer, verdict_on}
use Rattle.neli_session_laws.specs.Given.{Acknowledged, Delayed, Dumped, Ends, IsAcknowledged, IsDelayed, IsDumped, IsFor}
use Rattle.neli_session_laws.specs.Given.{IsPart, IsRefused, IsReplied, IsSimulated, Refused, Replied}
use Rattle.neli_session_laws.specs.Given.{verdict_by}
use Rattle.neli_session_laws.proofs.Coming.{All-as}

-- ---- messages with a body

-- the verdict that such a code decides
abbrev coded : ℤ → Verdict
coded code = if int_eq code (pos 0) then stands.Pending else stands.Failed code

part-pending : (asked : Request) (m : Lent ℕ) → IsPart asked m → message_verdict m ≡ stands.Pending
part-pending asked m (own, (two, three), unmarked) =
    ap (λ (b : Bool). if b then stands.Interrupted else coded (code_of m)) unmarked
    ∙ ap (λ (b : Bool). coded (if b || (m.0.message_type == 3) then code_or_zero m.1 else pos 0))
    (ne_eqb _ _ two)
    ∙ ap (λ (b : Bool). coded (if b then code_or_zero m.1 else pos 0)) (ne_eqb _ _ three)

-- none of them ends an answer, but that of one reply
part-not-last : (asked : Request) (m : Lent ℕ) → IsPart asked m → ends answered.Acknowledgement m ≡ false
part-not-last asked m (own, (two, three), unmarked) = ne_eqb _ _ two

part-not-end : (asked : Request) (m : Lent ℕ) → IsPart asked m → ends answered.Dump m ≡ false
part-not-end asked m (own, (two, three), unmarked) =
    ap (λ (b : Bool). (not (leaves_dump_running (code_of m)) && b) || (m.0.message_type == 3)) (ne_eqb _ _ two)
    ∙ ap (λ (b : Bool). (not (leaves_dump_running (code_of m)) && false) || b) (ne_eqb _ _ three)
    ∙ neither (not (leaves_dump_running (code_of m)))
  where
    neither : (b : Bool) → ((b && false) || false) ≡ false
    neither true = refl
    neither false = refl

-- messages with a body before the last decide nothing
after-parts : (asked : Request) (parts : List (Lent ℕ)) (last : Lent ℕ) → All (IsPart asked) parts
    → verdict_after stands.Pending (as_items (parts ++ last ∷ [])) ≡ message_verdict last
after-parts asked [] last all = refl
after-parts asked (m ∷ ms) last all =
    ap (λ (v : Verdict). verdict_after v (as_items (ms ++ last ∷ []))) (part-pending asked m (All-head (IsPart asked) m ms all))
    ∙ after-parts asked ms last (All-tail (IsPart asked) m ms all)

-- ---- a message with a code

or-true : (b : Bool) → (b || true) ≡ true
or-true true = refl
or-true false = refl

code-read : (code : ℤ) (rest : List ℕ) → FitsSigned w32 code → code_or_zero (signed_bytes w32 4 code ++ rest) ≡ code
code-read code rest fits =
    let s : List ℕ = signed_bytes w32 4 code ++ rest in
    let four : length (signed_bytes w32 4 code) ≡ 4 = count-signed w32 4 refl code in
    let enough : ltb (length s) 4 ≡ false = le-ltb _ _
    (omega (arith, length-append (signed_bytes w32 4 code) rest, four)) in
    let number : number_in 4 0 s ≡ cast_unsigned w32 code = let low = Fits-of_z fits in
    little_number-reads_back 4 (cast_unsigned w32 code) rest low.fits in
    let says : signed_number w32 4 s ≡ code = ap (cast_signed w32) number ∙ to_z-of_z w32 code fits in
    ap (λ (b : Bool). if b then pos 0 else signed_number w32 4 s) enough ∙ says

code-of : (m : Lent ℕ) (code : ℤ) (rest : List ℕ) → ((m.0.message_type == 2) || (m.0.message_type == 3)) ≡ true
    → m.1 ≡ signed_bytes w32 4 code ++ rest → FitsSigned w32 code → code_of m ≡ code
code-of m code rest kind bytes fits =
    ap (λ (b : Bool). if b then code_or_zero m.1 else pos 0) kind
    ∙ ap code_or_zero bytes ∙ code-read code rest fits

coded-verdict : (m : Lent ℕ) (code : ℤ) → has_all 16 m.0.flags ≡ false → code_of m ≡ code → message_verdict m ≡ coded code
coded-verdict m code unmarked is =
    ap (λ (b : Bool). if b then stands.Interrupted else coded (code_of m)) unmarked ∙ ap coded is

coded-last : (code : ℤ) → verdict_at (coded code) None stands.Complete ≡ verdict_by code
coded-last code = go (int_eq code (pos 0))
  where
    go : (b : Bool) → verdict_at (if b then stands.Pending else stands.Failed code) None stands.Complete
        ≡ (if b then stands.Complete else stands.Failed code)
    go true = refl
    go false = refl

fails-by : (code : ℤ) → code ≢ pos 0 → verdict_by code ≡ stands.Failed code
fails-by code some = go (int_eq code (pos 0)) refl
  where
    go : (b : Bool) → int_eq code (pos 0) ≡ b
        → (if b then stands.Complete else stands.Failed code) ≡ stands.Failed code
    go true is = absurd (some ((Decides-int_eq code (pos 0)).0 is))
    go false is = refl

-- ---- an answer of the kernel, as it is read

-- the first bytes of its body are those of the code
begins : (s : List ℕ) (w v : Wire) (body : List ℕ) → (Ok s +++ w) +++ v ≡ Ok body → (rest : List ℕ) × (body ≡ s ++ rest)
begins s (Ok x) (Ok y) body is = (x ++ y, (let same : (s ++ x) ++ y ≡ body = cc in sym same ∙ append_assoc s x y))
begins s (Ok x) (Err d) body is = absurd cc
begins s (Err d) v body is = absurd cc

read-same : (bytes : List ℕ) (m : Lent ℕ) (said : List (Lent ℕ)) → messages_in (λ n. n) bytes ≡ (m ∷ [], None)
    → AreRead (bytes ∷ []) said → said ≡ m ∷ []
read-same bytes m said one read = sym read.0 ∙ append-nil (messages_in (λ n. n) bytes).0
    ∙ ap (λ (c : Cut (Lent ℕ)). c.0) one

-- a message of type 2 for the request, with this code
record IsCoded (asked : Request) (code : ℤ) (m : Lent ℕ) : Type 0 where
  own : IsFor asked m
  kind : m.0.message_type ≡ 2
  code_is : code_of m ≡ code
  verdict : message_verdict m ≡ coded code

one-same : (x y : Lent ℕ) → x ∷ [] ≡ y ∷ [] → x ≡ y
one-same x y is = cc

unmarked-answer : (n : ℕ) (attrs : Attributes) → has_all 16 (flags_of n) ≡ false
    → has_all 16 (answer_flags (flags_of n) attrs) ≡ false
unmarked-answer n [] is = is
unmarked-answer n (a ∷ attrs) is = ap (λ (k : ℕ). k == 16) (and_or_apart 16 n 512 refl) ∙ is

coded-one : (asked : Request) (m : Lent ℕ) (code : ℤ) (body : List ℕ) (w v : Wire) → IsFor asked m
    → m.0.message_type ≡ 2
    → has_all 16 m.0.flags ≡ false → (Ok (signed_bytes w32 4 code) +++ w) +++ v ≡ Ok body
    → m.1 ≡ body ++ zeros_for (16 + length body) → FitsSigned w32 code → IsCoded asked code m
coded-one asked m code body w v own kind unmarked written bytes fits =
    let front = begins (signed_bytes w32 4 code) w v body written in
    let is = code-of m code (front.0 ++ zeros_for (16 + length body)) (ap (λ (n : ℕ). (n == 2) || (n == 3)) kind)
    (bytes ∙ ap (λ (s : List ℕ). s ++ zeros_for (16 + length body)) front.1
    ∙ append_assoc (signed_bytes w32 4 code) front.0 (zeros_for (16 + length body))) fits in
    record { own = own; kind = kind; code_is = is; verdict = coded-verdict m code unmarked is }

-- such a message alone is all of an answer that its code ends
alone-whole : (a : Answering) (asked : Request) (code : ℤ) (m : Lent ℕ) → IsCoded asked code m → Ends a code
    → IsWholeAnswer a (m ∷ [])
alone-whole a asked code m is by = record {
  front = [];
  last = m;
  are = refl;
  not_before = All-nil (λ m. ends a m ≡ false);
  at_last = ap (λ (n : ℕ). ends_answer a n m.0.flags (code_of m)) is.kind
      ∙ ap (λ (c : ℤ). ends_answer a 2 m.0.flags c) is.code_is ∙ by m.0.flags;
}

-- such a message with ENOBUFS does not end a dump
begins-dump : (asked : Request) (m : Lent ℕ) → IsCoded asked (negsuc 104) m → ends answered.Dump m ≡ false
begins-dump asked m is =
    ap (λ (n : ℕ). ends_answer answered.Dump n m.0.flags (code_of m)) is.kind
    ∙ ap (λ (c : ℤ). ends_answer answered.Dump 2 m.0.flags c) is.code_is

-- a verdict that is not pending stays
failed-stays : (code : ℤ) (xs : List Item) → verdict_after (stands.Failed code) xs ≡ stands.Failed code
failed-stays code [] = refl
failed-stays code (x ∷ xs) = failed-stays code xs

-- ---- what is known of the kernel's bytes

abbrev bytes_as : List ℕ → Wire
bytes_as b = Ok b

-- the bytes of these messages are one message of a datagram
abbrev pub AreFramed : (Request → ℤ → Attributes → Nlmsghdr ℕ (List ℕ)) → Type 0
AreFramed made =
    (asked : Request) (code : ℤ) (attrs : Attributes) (bytes : List ℕ) → IsAddressed asked
    → message_or_refusal (λ n. n) bytes_as (made asked code attrs) ≡ Ok bytes
    → IsWalked (λ n. n) bytes_as (made asked code attrs) bytes

-- a finished dump is read as its messages, and then the end
abbrev pub AreFinished : Type 0
AreFinished =
    (limit : ℕ) (asked : Request) (flags : NlmF) (code : ℤ) (attrs : Attributes) (text : List ℕ) (p : Packed)
    (said : List (Lent ℕ)) (datagrams : List (List ℕ)) → IsEnd asked flags code → AreReadBack attrs text
    → AreRead (datagrams_of p) said
    → finished limit (message_or_refusal (λ n. n) bytes_as (dump_end asked flags code attrs)) p ≡ Ok datagrams
    → AreRead datagrams (said ++ end_said asked flags code attrs text ∷ [])

abbrev pub AreAcknowledged : Type 0
AreAcknowledged =
    (asked : Request) (attrs : Attributes) (bytes : List ℕ) → IsAddressed asked
    → message_or_refusal (λ n. n) bytes_as (acknowledgement asked attrs) ≡ Ok bytes
    → IsWalked (λ n. n) bytes_as (acknowledgement asked attrs) bytes

module _ (acks : AreAcknowledged) (capped : AreFramed capped_error) (errors : AreFramed error)
    (dumps : AreFinished) where
  zero-fits : FitsSigned w32 (pos 0)
  zero-fits = fits_signed_from_abs w32 (pos 0) (omega arith)

  ack-coded : (asked : Request) (attrs : Attributes) (bytes : List ℕ) (m : Lent ℕ)
      → IsAnswer asked (acknowledgement asked attrs) bytes → AreRead (bytes ∷ []) (m ∷ []) → IsCoded asked (pos 0) m
  ack-coded asked attrs bytes m is read =
      let one = acks asked attrs bytes (is.header_fits.sequence_number, is.port_fits) is.bytes_are in
      let own : Lent ℕ = ((acknowledgement asked attrs).header, one.0 ++ zeros_for (16 + length one.0)) in
      subst (λ (x : Lent ℕ). IsCoded asked (pos 0) x)
      (sym (one-same m own (read-same bytes own (m ∷ []) one.2 read)))
      (coded-one asked own (pos 0) one.0 (header_wire (λ n. n) asked.header) (attributes_wire attrs) (refl, refl) refl
      (unmarked-answer 256 attrs refl) one.1 refl zero-fits)

  -- an error, which is read as one message
  record IsFailed (asked : Request) (code : ℤ) (said : List (Lent ℕ)) : Type 0 where
    only : Lent ℕ
    are : said ≡ only ∷ []
    coded_is : IsCoded asked code only

  capped-coded : (asked : Request) (code : ℤ) (attrs : Attributes) (bytes : List ℕ) (said : List (Lent ℕ))
      → FitsSigned w32 code → IsAnswer asked (capped_error asked code attrs) bytes → AreRead (bytes ∷ []) said
      → IsFailed asked code said
  capped-coded asked code attrs bytes said fits is read =
      let one = capped asked code attrs bytes (is.header_fits.sequence_number, is.port_fits) is.bytes_are in
      let own : Lent ℕ = ((capped_error asked code attrs).header, one.0 ++ zeros_for (16 + length one.0)) in
      record {
        only = own;
        are = read-same bytes own said one.2 read;
        coded_is = coded-one asked own code one.0 (header_wire (λ n. n) asked.header) (attributes_wire attrs)
            (refl, refl) refl
            (unmarked-answer 256 attrs refl) one.1 refl fits;
      }

  error-coded : (asked : Request) (code : ℤ) (attrs : Attributes) (bytes : List ℕ) (said : List (Lent ℕ))
      → FitsSigned w32 code → IsAnswer asked (error asked code attrs) bytes → AreRead (bytes ∷ []) said
      → IsFailed asked code said
  error-coded asked code attrs bytes said fits is read =
      let one = errors asked code attrs bytes (is.header_fits.sequence_number, is.port_fits) is.bytes_are in
      let own : Lent ℕ = ((error asked code attrs).header, one.0 ++ zeros_for (16 + length one.0)) in
      record {
        only = own;
        are = read-same bytes own said one.2 read;
        coded_is = coded-one asked own code one.0
            (echo_wire (λ n. n) bytes_as (record { header = asked.header; payload = record { 0 = asked.payload.now } }))
            (attributes_wire attrs) (refl, refl) refl (unmarked-answer 0 attrs refl) one.1 refl fits;
      }

  -- ---- each kind

  abbrev IsJudged : Request → Answering → List (Lent ℕ) → Verdict → Type 0
  IsJudged asked a said v = IsWholeAnswer a said × (verdict_on said ≡ v) × All (IsFor asked) said

  part-own : (asked : Request) (m : Lent ℕ) → IsPart asked m → IsFor asked m
  part-own asked m part = part.0

  -- parts, and then a message for the same request
  all-own : (asked : Request) (said parts : List (Lent ℕ)) (last : Lent ℕ) → said ≡ parts ++ last ∷ []
      → All (IsPart asked) parts → IsFor asked last → All (IsFor asked) said
  all-own asked said parts last are all own = subst (λ (ms : List (Lent ℕ)). All (IsFor asked) ms) (sym are)
      (All-push (IsFor asked) parts last (All-as (part-own asked) parts all) own)

  abbrev verdict_last : Verdict → Verdict
  verdict_last v = verdict_at v None stands.Complete

  acknowledged-whole : (asked : Request) (said : List (Lent ℕ)) → IsAcknowledged asked said
      → IsJudged asked answered.Acknowledgement said stands.Complete
  acknowledged-whole asked said is =
      let coded_is = ack-coded asked is.attrs is.bytes is.last is.is is.read in (
        record {
          front = is.replies;
          last = is.last;
          are = is.are;
          not_before = All-as (part-not-last asked) is.replies is.parts;
          at_last = ap (λ (n : ℕ). n == 2) coded_is.kind;
        },
        ap (λ (ms : List (Lent ℕ)). verdict_on ms) is.are
            ∙ ap verdict_last (after-parts asked is.replies is.last is.parts ∙ coded_is.verdict),
        all-own asked said is.replies is.last is.are is.parts coded_is.own,
      )

  refused-failed : (asked : Request) (code : ℤ) (said : List (Lent ℕ)) → IsRefused asked code said
      → IsFailed asked code said
  refused-failed asked code said is = by is.is
    where
      by : IsAnswer asked (capped_error asked code is.attrs) is.bytes
          ⊎ IsAnswer asked (error asked code is.attrs) is.bytes → IsFailed asked code said
      by (inl answer) = capped-coded asked code is.attrs is.bytes said is.fits answer is.read
      by (inr answer) = error-coded asked code is.attrs is.bytes said is.fits answer is.read

  refused-whole : (a : Answering) (asked : Request) (code : ℤ) (said : List (Lent ℕ)) → IsRefused asked code said
      → Ends a code → IsJudged asked a said (stands.Failed code)
  refused-whole a asked code said is ended =
      let f = refused-failed asked code said is in (
        subst (λ (ms : List (Lent ℕ)). IsWholeAnswer a ms) (sym f.are) (alone-whole a asked code f.only f.coded_is ended),
        ap (λ (ms : List (Lent ℕ)). verdict_on ms) f.are ∙ ap verdict_last f.coded_is.verdict ∙ coded-last code
            ∙ fails-by code is.some,
        all-own asked said [] f.only f.are (All-nil (IsPart asked)) f.coded_is.own,
      )

  replied-whole : (asked : Request) (said : List (Lent ℕ)) → IsReplied asked said
      → IsJudged asked answered.Reply said stands.Complete
  replied-whole asked said is = (
    record {
      front = [];
      last = is.reply;
      are = is.are;
      not_before = All-nil (λ m. ends answered.Reply m ≡ false);
      at_last = ap (λ (b : Bool). (is.reply.0.message_type == 2) || ((is.reply.0.message_type == 3) || not b)) is.alone
          ∙ ap (λ (b : Bool). (is.reply.0.message_type == 2) || b) (or-true (is.reply.0.message_type == 3))
          ∙ or-true (is.reply.0.message_type == 2);
    },
    ap (λ (ms : List (Lent ℕ)). verdict_on ms) is.are ∙ ap verdict_last (part-pending asked is.reply is.part),
    all-own asked said [] is.reply is.are (All-nil (IsPart asked)) is.part.0,
  )

  dumped-whole : (asked : Request) (code : ℤ) (said : List (Lent ℕ)) → IsDumped asked code said
      → IsJudged asked answered.Dump said (verdict_by code)
  dumped-whole asked code said is =
      let last : Lent ℕ = end_said asked is.flags code is.attrs is.text in
      let are : said ≡ is.dumped ++ last ∷ [] = sym is.read.0
      ∙ (dumps is.limit asked is.flags code is.attrs is.text is.packed is.dumped is.datagrams is.fits is.back
      is.before is.is).0 in
      let unmarked : has_all 16 (with_multi is.flags) ≡ false =
      ap (λ (n : ℕ). n == 16) (and_or_apart 16 is.flags.0 2 refl) ∙ is.unmarked in (
        record {
          front = is.dumped;
          last = last;
          are = are;
          not_before = All-as (part-not-end asked) is.dumped is.parts;
          at_last = or-true (not (leaves_dump_running (code_of last)) && false);
        },
        ap (λ (ms : List (Lent ℕ)). verdict_on ms) are
            ∙ ap verdict_last (after-parts asked is.dumped last is.parts
            ∙ coded-verdict last code (unmarked-answer (bit_or is.flags.0 2) is.attrs unmarked)
            (code-of last code is.text refl refl is.fits.code_fits))
            ∙ coded-last code,
        all-own asked said is.dumped last are is.parts (refl, refl),
      )

  delayed-whole : (asked : Request) (said : List (Lent ℕ)) → IsDelayed asked said
      → IsJudged asked answered.Dump said (stands.Failed (negsuc 104))
  delayed-whole asked said is =
      let f = refused-failed asked (negsuc 104) is.refusal is.refused in
      let dump = dumped-whole asked is.code is.dump is.dumped in
      let are : said ≡ f.only ∷ is.dump = is.are ∙ ap (λ (ms : List (Lent ℕ)). ms ++ is.dump) f.are in (
        record {
          front = f.only ∷ dump.0.front;
          last = dump.0.last;
          are = are ∙ ap (λ (ms : List (Lent ℕ)). f.only ∷ ms) dump.0.are;
          not_before = All-cons (λ m. ends answered.Dump m ≡ false) f.only dump.0.front
              (begins-dump asked f.only f.coded_is) dump.0.not_before;
          at_last = dump.0.at_last;
        },
        ap (λ (ms : List (Lent ℕ)). verdict_on ms) are
            ∙ ap verdict_last (ap (λ (v : Verdict). verdict_after v (as_items is.dump)) f.coded_is.verdict
            ∙ failed-stays (negsuc 104) (as_items is.dump)),
        subst (λ (ms : List (Lent ℕ)). All (IsFor asked) ms) (sym are)
            (All-cons (IsFor asked) f.only is.dump f.coded_is.own dump.2),
      )

  pub simulated_whole : (asked : Request) (said : List (Lent ℕ)) (a : Answering) (v : Verdict)
      → IsSimulated asked said a v → IsWholeAnswer a said × (verdict_on said ≡ v) × All (IsFor asked) said
  simulated_whole asked said _ _ (Acknowledged is) = acknowledged-whole asked said is
  simulated_whole asked said _ _ (Replied is) = replied-whole asked said is
  simulated_whole asked said _ _ (Dumped code is) = dumped-whole asked code said is
  simulated_whole asked said _ _ (Refused a code is ended) = refused-whole a asked code said is ended
  simulated_whole asked said _ _ (Delayed is) = delayed-whole asked said is

-- ---- what a datagram brings

own-brought : (asked : Request) (q : ℕ) (ms : List (Lent ℕ)) → All (IsFor asked) ms
    → own_of asked.port q ms ≡ (if asked.header.sequence_number == q then ms else [])
own-brought asked q [] all = go (asked.header.sequence_number == q)
  where
    go : (b : Bool) → own_of asked.port q [] ≡ (if b then own_of asked.port q [] else own_of asked.port q [])
    go true = refl
    go false = refl
own-brought asked q (m ∷ ms) all =
    let first = All-head (IsFor asked) m ms all in
    ap (λ (b : Bool). if b && (m.0.sequence_number == q) then m ∷ own_of asked.port q ms else own_of asked.port q ms)
    (eq-eqb m.0.port asked.port first.1)
    ∙ ap (λ (n : ℕ). if n == q then m ∷ own_of asked.port q ms else own_of asked.port q ms) first.0
    ∙ go (asked.header.sequence_number == q) (own-brought asked q ms (All-tail (IsFor asked) m ms all))
  where
    go : (b : Bool) → own_of asked.port q ms ≡ (if b then ms else [])
        → (if b then m ∷ own_of asked.port q ms else own_of asked.port q ms) ≡ (if b then m ∷ ms else [])
    go true more = ap (λ (xs : List (Lent ℕ)). m ∷ xs) more
    go false more = more

pub datagram_brings : (asked : Request) (said : List (Lent ℕ)) (datagram : List ℕ) (group q : ℕ) (joined echoing : Bool)
    → AreRead (datagram ∷ []) said → All (IsFor asked) said
    → brought asked.port echoing q (Receive group joined datagram)
    ≡ (if ((group == 0) || echoing) && (asked.header.sequence_number == q) then said else [])
datagram_brings asked said datagram group q joined echoing read all = go ((group == 0) || echoing)
  where
    same : messages_of datagram ≡ said
    same = sym (append-nil (messages_of datagram)) ∙ read.0

    go : (b : Bool) → (if b then own_of asked.port q (messages_of datagram) else [])
        ≡ (if b && (asked.header.sequence_number == q) then said else [])
    go true = ap (λ (ms : List (Lent ℕ)). own_of asked.port q ms) same ∙ own-brought asked q said all
    go false = refl
