-- A finished dump: its datagrams are read as the messages that were put in, and the end.
use Rattle.std.proofs.Common.{◌≡◌, ◌≢◌, ℕ, ◌+◌, All, Bool, true, List, [], ◌∷◌, ◌++◌, length, map}
use Rattle.std.proofs.Common.{Option, Some, None, Result, Ok, Err, refl, sym, ap, subst, ◌∙◌, arith, length-append}
use Rattle.std.specs.Prelude.{◌==◌, ℤ, FitsSigned, bit_or, replicate}
use Rattle.std.specs.Int.{w32}
use Rattle.std.proofs.lemmas.List.{append-nil, map-append}
use Rattle.std.proofs.lemmas.List.Elements.{All-push}
use Rattle.std.proofs.lemmas.Nat.{and_or_apart, and_or_self, or_lt}
use Rattle.neli_wire.specs.declared.errors.DeError.{DeError}
use Rattle.neli_wire.specs.Numbers.{signed_bytes}
use Rattle.neli_wire.specs.declared.errors.SerError.{SerError}
use Rattle.neli_wire.specs.Sizes.{gap}
use Rattle.neli_wire.specs.Writing.{Wire, ◌+++◌, zeros_for}
use Rattle.neli_wire.specs.laws.Numbers.{count-signed}
use Rattle.neli_consts.specs.declared.nlm_f.NlmF.{NlmF}
use Rattle.neli_reader.specs.Answers.{Attributes}
use Rattle.neli_reader.specs.Headers.{Header}
use Rattle.neli_reader.specs.Kinds.{is_multi}
use Rattle.neli_reader.specs.Wires.{payload_wire}
use Rattle.neli_lent.specs.Messages.{Lent, messages_in}
use Rattle.neli_deliveries.specs.Deliveries.{Untyped, message}
use Rattle.neli_kernel.specs.declared.request.Request.{Request}
use Rattle.neli_kernel.specs.Answers.{answer_flags, message_or_refusal}
use Rattle.neli_kernel.specs.Datagrams.{AreRead}
use Rattle.neli_kernel.specs.Delivered.{AreReadBack, IsEnd, IsFor, answer_kept, end_said, shares, untyped}
use Rattle.neli_kernel.specs.Dumps.{Packed, all_of, datagrams_of, dump_end, finished, put_wire, with_multi}
use Rattle.neli_kernel.proofs.Answers.{bytes-sized, flags-fit, one-message}
use Rattle.neli_kernel.proofs.Datagrams.{put_wire-read}
use Rattle.neli_kernel.proofs.ExtAcks.{whole-words}
use Rattle.neli_kernel.proofs.Delivered.{dump-asker, dump-others, untyped-end, written-same}

-- ---- the end was put in

record IsPutIn (limit : ℕ) (w : Wire) (p : Packed) (datagrams : List (List ℕ)) : Type 0 where
  frame : List ℕ
  packed : Packed
  written : w ≡ Ok frame
  put : put_wire limit (Ok frame) p ≡ Ok packed
  all : datagrams_of packed ≡ datagrams

put-in-by : (limit : ℕ) (frame : List ℕ) (p : Packed) (datagrams : List (List ℕ)) (r : Result Packed SerError)
    → put_wire limit (Ok frame) p ≡ r → all_of r ≡ Ok datagrams → IsPutIn limit (Ok frame) p datagrams
put-in-by limit frame p datagrams (Ok q) is e = record { frame = frame; packed = q; written = refl; put = is; all = cc }
put-in-by limit frame p datagrams (Err x) is e = absurd cc

put-in : (limit : ℕ) (w : Wire) (p : Packed) (datagrams : List (List ℕ)) → finished limit w p ≡ Ok datagrams
    → IsPutIn limit w p datagrams
put-in limit (Ok frame) p datagrams e = put-in-by limit frame p datagrams (put_wire limit (Ok frame) p) refl e
put-in limit (Err x) p datagrams e = absurd cc

-- ---- and is read as itself

-- a dump's end has MULTI, whatever its attributes are
multi-end : (flags : NlmF) (attrs : Attributes) → is_multi (answer_flags (with_multi flags) attrs) ≡ true
multi-end flags [] = ap (λ (n : ℕ). n == 2) (and_or_self 2 flags.0)
multi-end flags (a ∷ attrs) = ap (λ (n : ℕ). n == 2) (and_or_apart 2 (bit_or flags.0 2) 512 refl
    ∙ and_or_self 2 flags.0)

module _ (asked : Request) (flags : NlmF) (code : ℤ) (attrs : Attributes) (text : List ℕ)
    (fits : IsEnd asked flags code) (back : AreReadBack attrs text) where
  end-walked : (frame : List ℕ) → message_or_refusal (λ n. n) (λ b. Ok b) (dump_end asked flags code attrs) ≡ Ok frame
      → messages_in (λ n. n) frame ≡ (end_said asked flags code attrs text ∷ [], None)
  end-walked frame written =
      let h : Header ℕ = (dump_end asked flags code attrs).header in
      let s : List ℕ = signed_bytes w32 4 code ++ text in
      let one = one-message (λ t. t) (λ b. Ok b) length bytes-sized 3
      (answer_flags (with_multi flags) attrs) asked.header.sequence_number asked.port
      (dump_end asked flags code attrs).payload frame (omega arith)
      (flags-fit (bit_or flags.0 2) attrs (or_lt 16 flags.0 2 fits.flags_fit (omega arith))) fits.number_fits
      fits.port_fits written in
      let known : payload_wire (λ n. n) (λ b. Ok b) (dump_end asked flags code attrs).payload ≡ Ok s =
      ap (λ (w : Wire). Ok (signed_bytes w32 4 code ++ []) +++ w) back.written
      ∙ ap (λ (b : List ℕ). Ok (b ++ text)) (append-nil (signed_bytes w32 4 code)) in
      let is : one.0 ≡ s = written-same (payload_wire (λ n. n) (λ b. Ok b)
      (dump_end asked flags code attrs).payload) one.0 s one.1 known in
      let long : length s ≡ 4 + length text = omega (
        arith,
        length-append (signed_bytes w32 4 code) text,
        count-signed w32 4 refl code,
      ) in
      let full : gap (16 + length s) ≡ 0 = omega (arith, long, whole-words attrs text back.written) in
      let padded : s ++ zeros_for (16 + length s) ≡ s = ap (λ (n : ℕ). s ++ replicate n 0) full ∙ append-nil s in
      let own : one.0 ++ zeros_for (16 + length one.0) ≡ s = ap (λ (t : List ℕ). t ++ zeros_for (16 + length t)) is
      ∙ padded in
      one.2 ∙ ap (λ (t : List ℕ). ((h, t) ∷ [], None)) own

  pub finished-read : (limit : ℕ) (p : Packed) (said : List (Lent ℕ)) (datagrams : List (List ℕ))
      → AreRead (datagrams_of p) said → finished limit
      (message_or_refusal (λ n. n) (λ b. Ok b) (dump_end asked flags code attrs)) p ≡ Ok datagrams
      → AreRead datagrams (said ++ end_said asked flags code attrs text ∷ [])
  finished-read limit p said datagrams read is =
      let put = put-in limit (message_or_refusal (λ n. n) (λ b. Ok b)
      (dump_end asked flags code attrs)) p datagrams is in
      subst (λ (ds : List (List ℕ)). AreRead ds (said ++ end_said asked flags code attrs text ∷ [])) put.all
      (put_wire-read limit put.frame (end_said asked flags code attrs text) p put.packed said
      (end-walked put.frame put.written) put.put read)

pub finished-kept : (asked : Request) (flags : NlmF) (code : ℤ) (attrs : Attributes) (text : List ℕ)
    (said : List (Lent ℕ)) (ms : List Untyped) → FitsSigned w32 code → AreReadBack attrs text
    → map untyped said ≡ map (λ m. Ok m) ms → map untyped (said ++ end_said asked flags code attrs text ∷ [])
    ≡ map (λ m. Ok m) (ms ++ answer_kept (dump_end asked flags code attrs) ∷ [])
finished-kept asked flags code attrs text said ms fits back are =
    let h : Header ℕ = (dump_end asked flags code attrs).header in
    let own : Untyped = answer_kept (dump_end asked flags code attrs) in
    let last : untyped (end_said asked flags code attrs text) ≡ Ok own =
    untyped-end h code attrs text refl (multi-end flags attrs) fits back in
    map-append untyped said (end_said asked flags code attrs text ∷ [])
    ∙ ap (λ (rs : List (Result Untyped DeError)). rs ++ untyped (end_said asked flags code attrs text) ∷ []) are
    ∙ ap (λ (r : Result Untyped DeError). map (λ (m : Untyped). Ok m) ms ++ r ∷ []) last
    ∙ sym (map-append (λ (m : Untyped). Ok m) ms (own ∷ []))

module _ (limit : ℕ) (asked : Request) (flags : NlmF) (code : ℤ) (attrs : Attributes) (text : List ℕ) (p : Packed)
    (said : List (Lent ℕ)) (ms : List Untyped) (datagrams : List (List ℕ)) (is_open : ℕ
    → Bool) (fits : IsEnd asked flags code) (back : AreReadBack attrs text) (read : AreRead (datagrams_of p) said)
    (are : map untyped said ≡ map (λ m. Ok m) ms) (all : All (IsFor asked.header.sequence_number asked.port) ms)
    (opened : is_open asked.header.sequence_number ≡ true)
    (is : finished limit (message_or_refusal (λ n. n) (λ b. Ok b) (dump_end asked flags code attrs)) p
    ≡ Ok datagrams) where
  abbrev own : Untyped
  own = answer_kept (dump_end asked flags code attrs)

  abbrev ending : Lent ℕ
  ending = end_said asked flags code attrs text

  abbrev For : Untyped → Type 0
  For = IsFor asked.header.sequence_number asked.port

  whole-read : AreRead datagrams (said ++ ending ∷ [])
  whole-read = finished-read asked flags code attrs text fits back limit p said datagrams read is

  whole-kept : map untyped (said ++ ending ∷ []) ≡ map (λ m. Ok m) (ms ++ own ∷ [])
  whole-kept = finished-kept asked flags code attrs text said ms fits.code_fits back are

  whole-for : All For (ms ++ own ∷ [])
  whole-for = All-push For ms own all (refl, refl)

  pub finished-asker : shares asked.port is_open (Some asked.header.sequence_number) datagrams
      ≡ map message (ms ++ own ∷ [])
  finished-asker = dump-asker datagrams (said ++ ending ∷ [])
      (ms ++ own ∷ []) asked.header.sequence_number asked.port is_open whole-read whole-kept whole-for opened

  pub finished-others : (other : Option ℕ) → other ≢ Some asked.header.sequence_number
      → shares asked.port is_open other datagrams ≡ []
  finished-others other differs =
      dump-others datagrams (said ++ ending ∷ []) (ms ++ own
      ∷ []) asked.header.sequence_number asked.port is_open whole-read whole-kept whole-for opened other differs
