-- Messages as a router stores and delivers them.
use Rattle.std.proofs.Common.{◌≡◌, ◌≢◌, ◌<◌, ℕ, ◌+◌, ◌-◌, All, Bool, true, false, ltb, List}
use Rattle.std.proofs.Common.{[], ◌∷◌, ◌++◌, length, map, take, drop, Option, Some, None, Result}
use Rattle.std.proofs.Common.{Ok, Err, refl, sym, ap, subst, ◌∙◌, arith, length-append}
use Rattle.std.specs.Prelude.{ℤ, FitsSigned, flat_map, nat_eq}
use Rattle.std.specs.Int.{w32, cast_signed, cast_unsigned}
use Rattle.std.proofs.Math.Facts.{Fits-of_z}
use Rattle.std.proofs.lemmas.Bool.{eq-eqb, le-ltb, ne_eqb}
use Rattle.std.proofs.lemmas.Int.{to_z-of_z}
use Rattle.std.proofs.lemmas.List.{append-nil, drop_at, map-append}
use Rattle.std.proofs.lemmas.List.Elements.{All-cons, All-head, All-nil, All-push, All-tail}
use Rattle.byteorder.specs.Numbers.{little_number-reads_back}
use Rattle.neli_wire.specs.declared.errors.DeError.{DeError}
use Rattle.neli_wire.specs.Frames.{IsFrame, number_in}
use Rattle.neli_wire.specs.Numbers.{signed_bytes, signed_number}
use Rattle.neli_wire.specs.Reading.{◌>>=◌}
use Rattle.neli_wire.specs.Sizes.{align}
use Rattle.neli_wire.specs.Writing.{Wire, zeros_for}
use Rattle.neli_wire.specs.laws.Numbers.{count-signed}
use Rattle.neli_wire.specs.laws.Reading.{ok_is}
use Rattle.neli_consts.specs.declared.nlm_f.NlmF.{NlmF}
use Rattle.neli_reader.specs.Answers.{Attributes, after, answer, dump_end_in, ext_ack_in}
use Rattle.neli_reader.specs.Nlmsgerr.{Nlmsgerr}
use Rattle.neli_reader.specs.Agreement.{untyped_layout}
use Rattle.neli_reader.specs.Builders.{header_with}
use Rattle.neli_reader.specs.Cuts.{Cut, cut_of}
use Rattle.neli_reader.specs.Headers.{Header, flags_of}
use Rattle.neli_reader.specs.Kinds.{is_multi, payload_in}
use Rattle.neli_reader.specs.NlPayload.{NlPayload}
use Rattle.neli_reader.specs.NlPayload.TheVariants as payload
use Rattle.neli_reader.specs.laws.Cuts.{CutsEach, cut_of-each, cut_of-is}
use Rattle.neli_reader.specs.laws.Messages.{layout_with-placed}
use Rattle.neli_lent.specs.Messages.{Lent, lent_message, messages_in}
use Rattle.neli_deliveries.specs.Deliveries.{Untyped, datagram_share, message, message_to, messages_to}
use Rattle.neli_deliveries.specs.Deliveries.{reader_fault}
use Rattle.neli_deliveries.specs.declared.delivery.Delivery.{Delivery}
use Rattle.neli_kernel.specs.Datagrams.{AreRead, HasNoFault, messages_of}
use Rattle.neli_kernel.specs.Delivered.{AreReadBack, IsFor, IsPlain, IsReply, kept, reply_kept, shares, untyped}
use Rattle.neli_kernel.specs.Answers.{IsAddressed, control, message_or_refusal}
use Rattle.neli_kernel.specs.declared.request.Request.{Request}
use Rattle.neli_kernel.proofs.Answers.{one-message}

abbrev same : ℕ → ℕ
same n = n

-- ---- a message of a plain type is stored with its bytes as body

payload-plain : (number : ℕ) (flags : NlmF) (s v : List ℕ) → IsPlain number → s ≡ v
    → payload_in same (λ bytes. Ok bytes) number flags s ≡ Ok (payload.Payload v)
payload-plain number flags s v plain is =
    let two : nat_eq number 2 ≡ false = ne_eqb _ _ plain.0 in
    let three : nat_eq number 3 ≡ false = ne_eqb _ _ plain.1 in
    rw (two, three) (ap (λ (x : List ℕ). Ok (payload.Payload x)) is)

pub untyped-plain : (m : Lent ℕ) → IsPlain m.0.message_type → untyped m ≡ Ok (kept m)
untyped-plain m plain = rw (payload-plain m.0.message_type m.0.flags m.1 m.1 plain refl) refl

-- ---- the end of a dump

abbrev end_with : List ℕ → Attributes → Result (Nlmsgerr (Unit {0})) DeError
end_with s attrs = Ok (answer (signed_number w32 4 s) tt attrs)

end-read : (flags : NlmF) (s text : List ℕ) (code : ℤ) (attrs : Attributes) → length s ≡ 4 + length text
    → drop 4 s ≡ text → signed_number w32 4 s ≡ code → ext_ack_in text ≡ Ok attrs → is_multi flags ≡ true
    → payload_in same (λ bytes. Ok bytes) 3 flags s ≡ Ok (payload.DumpExtAck (answer code tt attrs))
end-read flags s text code attrs long text_is says lists multi =
    let some : nat_eq (length s) 0 ≡ false = ne_eqb _ _ (λ e. omega (arith, e, long)) in
    let enough : ltb (length s) 4 ≡ false = le-ltb _ _ (omega (arith, long)) in
    let after_code : after 4 s ≡ Ok text = rw (enough, text_is) refl in
    let read : dump_end_in s ≡ Ok (answer code tt attrs) =
    ap (λ (r : Result (List ℕ) DeError). r >>= λ rest. ext_ack_in rest >>= λ list. end_with s list) after_code
    ∙ ap (λ (r : Result Attributes DeError). r >>= λ list. end_with s list) lists
    ∙ ap (λ (c : ℤ). Ok (answer c tt attrs)) says in
    rw (some, multi) (ap (λ (r : Result (Nlmsgerr (Unit {0})) DeError). r >>= λ e. Ok (payload.DumpExtAck e)) read)

pub untyped-end : (h : Header ℕ) (code : ℤ) (attrs : Attributes) (text : List ℕ) → h.message_type ≡ 3
    → is_multi h.flags ≡ true → FitsSigned w32 code → AreReadBack attrs text
    → untyped (h, signed_bytes w32 4 code ++ text) ≡ Ok (h, payload.DumpExtAck (answer code tt attrs))
untyped-end h code attrs text three multi fits back =
    let s : List ℕ = signed_bytes w32 4 code ++ text in
    let four : length (signed_bytes w32 4 code) ≡ 4 = count-signed w32 4 refl code in
    let long : length s ≡ 4 + length text = omega (arith, length-append (signed_bytes w32 4 code) text, four) in
    let text_is : drop 4 s ≡ text = drop_at (signed_bytes w32 4 code) text 4 four in
    let number : number_in 4 0 s ≡ cast_unsigned w32 code = let low = Fits-of_z fits in
    little_number-reads_back 4 (cast_unsigned w32 code) text low.fits in
    let says : signed_number w32 4 s ≡ code = ap (cast_signed w32) number ∙ to_z-of_z w32 code fits in
    let read = end-read h.flags s text code attrs long text_is says back.read multi in
    let typed = ap (λ (n : ℕ). payload_in same (λ bytes. Ok bytes) n h.flags s) three ∙ read in
    ap (λ (r : Result (NlPayload ℕ (List ℕ)) DeError). r >>= λ p. Ok (h, p)) typed

-- ---- walked bytes are cut into the same messages untyped

owned-parts : (h : Header ℕ) (r : Result (NlPayload ℕ (List ℕ)) DeError) (u : Untyped) → (r >>= λ p. Ok (h, p)) ≡ Ok u
    → (r ≡ Ok u.1) × (h ≡ u.0)
owned-parts h (Ok p) u is = let same : (h, p) ≡ u = ok_is (h, p) u is in
    (ap (λ (x : Untyped). Ok x.1) same, ap (λ (x : Untyped). x.0) same)
owned-parts h (Err e) u is = absurd cc

frame-untyped : (s : List ℕ) (m : Lent ℕ) (u : Untyped) → untyped m ≡ Ok u → IsFrame (lent_message same) s m.0 m.1
    → IsFrame untyped_layout s u.0 u.1
frame-untyped s m u of is =
    let parts = owned-parts m.0 (payload_in same (λ bytes. Ok bytes) m.0.message_type m.0.flags m.1) u of in
    let bytes : take (m.0.len - 16) (drop 16 s) ≡ m.1 = ok_is _ _ is.payload_is in
    let whole : IsFrame untyped_layout s m.0 u.1 = record {
      header_is = is.header_is;
      least = is.least;
      whole = is.whole;
      payload_is = ap (payload_in same (λ b. Ok b) m.0.message_type m.0.flags) bytes ∙ parts.0;
    } in
    subst (λ (h : Header ℕ). IsFrame untyped_layout s h u.1) parts.1 whole

-- each of these messages is stored as that one
abbrev AreKept : List (Lent ℕ) → List Untyped → Type 0
AreKept ms us = map untyped ms ≡ map (λ u. Ok u) us

kept-cons : (m : Lent ℕ) (u : Untyped) (ms : List (Lent ℕ)) (us : List Untyped) → AreKept (m ∷ ms) (u ∷ us)
    → (untyped m ≡ Ok u) × AreKept ms us
kept-cons m u ms us is = (cc, cc)

abbrev Each : List ℕ → List (Lent ℕ) → Option DeError → Type 0
Each = CutsEach (lent_message same) (layout_with-placed same _) (omega arith)

abbrev EachUntyped : List ℕ → List Untyped → Option DeError → Type 0
EachUntyped = CutsEach untyped_layout (layout_with-placed same _) (omega arith)

each-untyped : (b : List ℕ) (ms : List (Lent ℕ)) (us : List Untyped) → AreKept ms us → Each b ms None
    → EachUntyped b us None
each-untyped b [] [] are c = c
each-untyped b [] (u ∷ us) are c = absurd cc
each-untyped b (m ∷ ms) [] are c = absurd cc
each-untyped b (m ∷ ms) (u ∷ us) are c =
    let first = kept-cons m u ms us are in
    (c.0, c.1, c.2, frame-untyped c.0 m u first.0 c.3, each-untyped c.1 ms us first.1 c.4)

pub cut-untyped : (b : List ℕ) (ms : List (Lent ℕ)) (us : List Untyped) → AreKept ms us
    → messages_in same b ≡ (ms, None) → cut_of untyped_layout b ≡ (us, None)
unfolding messages_in
cut-untyped b ms us are is =
    cut_of-is untyped_layout (layout_with-placed same _) (omega arith) b us None
    (each-untyped b ms us are (subst (λ (c : Cut (Lent ℕ)). Each b c.0 c.1) is
    (cut_of-each (lent_message same) (layout_with-placed same _) (omega arith) b)))

-- ---- their number and port

module _ (number port : ℕ) (is_open : ℕ → Bool) (opened : is_open number ≡ true) where
  to-asker : (u : Untyped) → IsFor number port u → message_to port is_open number u ≡ message u ∷ []
  to-asker u is =
      let here : nat_eq u.0.port port ≡ true = eq-eqb _ _ is.1 in
      let still : is_open u.0.sequence_number ≡ true = ap is_open is.0 ∙ opened in
      let own : nat_eq u.0.sequence_number number ≡ true = eq-eqb _ _ is.0 in
      rw (here, still, own) refl

  to-other : (q : ℕ) (u : Untyped) → q ≢ number → IsFor number port u → message_to port is_open q u ≡ []
  to-other q u other is =
      let here : nat_eq u.0.port port ≡ true = eq-eqb _ _ is.1 in
      let still : is_open u.0.sequence_number ≡ true = ap is_open is.0 ∙ opened in
      let own : nat_eq u.0.sequence_number q ≡ false = ne_eqb _ _ (λ e. other (sym e ∙ is.0)) in
      rw (here, still, own) refl

  all-to-asker : (us : List Untyped) → All (IsFor number port) us → messages_to port is_open number us ≡ map message us
  all-to-asker [] all = refl
  all-to-asker (u ∷ us) all =
      let first = to-asker u (All-head (IsFor number port) u us all) in
      rw first (ap (λ (ds : List Delivery). message u ∷ ds) (all-to-asker us (All-tail (IsFor number port) u us all)))

  all-to-other : (q : ℕ) (us : List Untyped) → q ≢ number → All (IsFor number port) us
      → messages_to port is_open q us ≡ []
  all-to-other q [] other all = refl
  all-to-other q (u ∷ us) other all =
      let first = to-other q u other (All-head (IsFor number port) u us all) in
      rw first (all-to-other q us other (All-tail (IsFor number port) u us all))

  -- of a datagram that is cut into such messages
  pub share-asker : (b : List ℕ) (us : List Untyped) → All (IsFor number port) us → cut_of untyped_layout b ≡ (us, None)
      → datagram_share port is_open (Some number) (cut_of untyped_layout b) [] ≡ map message us
  share-asker b us all cut = rw cut (append-nil _ ∙ all-to-asker us all)

  pub share-other : (other : Option ℕ) (b : List ℕ) (us : List Untyped) → other ≢ Some number
      → All (IsFor number port) us → cut_of untyped_layout b ≡ (us, None)
      → datagram_share port is_open other (cut_of untyped_layout b) [] ≡ []
  share-other None b us differs all cut = refl
  share-other (Some q) b us differs all cut = rw cut (append-nil _
      ∙ all-to-other q us (λ e. differs (ap (λ (n : ℕ). Some n) e)) all)

-- ---- datagrams

-- a longer list is stored as its two parts are
record Halves (ms ns : List (Lent ℕ)) (us : List Untyped) : Type 0 where
  before : List Untyped
  after : List Untyped
  joined : us ≡ before ++ after
  first : AreKept ms before
  later : AreKept ns after

halves : (ms ns : List (Lent ℕ)) (us : List Untyped) → AreKept (ms ++ ns) us → Halves ms ns us
halves [] ns us are = record { before = []; after = us; joined = refl; first = refl; later = are }
halves (m ∷ ms) ns [] are = absurd cc
halves (m ∷ ms) ns (u ∷ us) are =
    let parts = kept-cons m u (ms ++ ns) us are in
    let h = halves ms ns us parts.1 in
    let first : AreKept (m ∷ ms) (u ∷ h.before) = rw parts.0
    (ap (λ (rs : List (Result Untyped DeError)). Ok u ∷ rs) h.first) in
    record {
      before = u ∷ h.before;
      after = h.after;
      joined = ap (λ (xs : List Untyped). u ∷ xs) h.joined;
      first = first;
      later = h.later;
    }

All-first : {A : Type 0} (P : A → Type 0) (xs ys : List A) → All P (xs ++ ys) → All P xs
All-first P [] ys h = All-nil P
All-first P (x ∷ xs) ys h = All-cons P x xs (All-head P x (xs ++ ys) h) (All-first P xs ys (All-tail P x (xs ++ ys) h))

All-later : {A : Type 0} (P : A → Type 0) (xs ys : List A) → All P (xs ++ ys) → All P ys
All-later P [] ys h = h
All-later P (x ∷ xs) ys h = All-later P xs ys (All-tail P x (xs ++ ys) h)

-- a datagram without a fault is read as these
read-whole : (d : List ℕ) → HasNoFault d → messages_in same d ≡ ((messages_in same d).0, None)
read-whole d none = ap (λ (f : Option DeError). ((messages_in same d).0, f)) none

module _ (number port : ℕ) (is_open : ℕ → Bool) (opened : is_open number ≡ true) where
  abbrev For : Untyped → Type 0
  For = IsFor number port

  all-asker : (ds : List (List ℕ)) (us : List Untyped) → All HasNoFault ds → AreKept (messages_of ds) us → All For us
      → shares port is_open (Some number) ds ≡ map message us
  all-asker [] [] none are all = refl
  all-asker [] (u ∷ us) none are all = absurd cc
  all-asker (d ∷ ds) us none are all =
      let h = halves (messages_in same d).0 (messages_of ds) us are in
      let both : All For (h.before ++ h.after) = subst (All For) h.joined all in
      let cut = cut-untyped d (messages_in same d).0 h.before h.first (read-whole d (All-head HasNoFault d ds none)) in
      let here = share-asker number port is_open opened d h.before (All-first For h.before h.after both) cut in
      let more = all-asker ds h.after (All-tail HasNoFault d ds none) h.later (All-later For h.before h.after both) in
      let told : shares port is_open (Some number) (d ∷ ds) ≡ map message h.before ++ map message h.after =
      rw (here, more) refl in
      told ∙ sym (map-append message h.before h.after) ∙ ap (map message) (sym h.joined)

  all-others : (other : Option ℕ) (ds : List (List ℕ)) (us : List Untyped) → other ≢ Some number → All HasNoFault ds
      → AreKept (messages_of ds) us → All For us → shares port is_open other ds ≡ []
  all-others other [] us differs none are all = refl
  all-others other (d ∷ ds) us differs none are all =
      let h = halves (messages_in same d).0 (messages_of ds) us are in
      let both : All For (h.before ++ h.after) = subst (All For) h.joined all in
      let cut = cut-untyped d (messages_in same d).0 h.before h.first (read-whole d (All-head HasNoFault d ds none)) in
      let here = share-other number port is_open opened other d h.before differs
      (All-first For h.before h.after both) cut in
      let more = all-others other ds h.after differs (All-tail HasNoFault d ds none) h.later
      (All-later For h.before h.after both) in
      rw (here, more) refl

-- ---- how they are cut

abbrev IsWhole : List ℕ → Type 0
IsWhole d = (cut_of untyped_layout d).1 ≡ None

abbrev messages_cut : List ℕ → List Untyped
messages_cut d = (cut_of untyped_layout d).0

all-cut : (ds : List (List ℕ)) (us : List Untyped) → All HasNoFault ds → AreKept (messages_of ds) us
    → (flat_map messages_cut ds ≡ us) × All IsWhole ds
all-cut [] [] none are = (refl, All-nil IsWhole)
all-cut [] (u ∷ us) none are = absurd cc
all-cut (d ∷ ds) us none are =
    let h = halves (messages_in same d).0 (messages_of ds) us are in
    let cut = cut-untyped d (messages_in same d).0 h.before h.first (read-whole d (All-head HasNoFault d ds none)) in
    let r = all-cut ds h.after (All-tail HasNoFault d ds none) h.later in (
      ap (λ (c : Cut Untyped). c.0 ++ flat_map messages_cut ds) cut ∙ ap (λ (xs : List Untyped). h.before ++ xs) r.0
          ∙ sym h.joined,
      All-cons IsWhole d ds (ap (λ (c : Cut Untyped). c.1) cut) r.1,
    )

pub dump-cut : (ds : List (List ℕ)) (said : List (Lent ℕ)) (us : List Untyped) → AreRead ds said → AreKept said us
    → (flat_map (λ d. (cut_of untyped_layout d).0) ds ≡ us) × All (λ d. (cut_of untyped_layout d).1 ≡ None) ds
dump-cut ds said us read are = all-cut ds us read.1 (subst (λ (ms : List (Lent ℕ)). AreKept ms us) (sym read.0) are)

pub dump-asker : (ds : List (List ℕ)) (said : List (Lent ℕ)) (us : List Untyped) (number port : ℕ) (is_open : ℕ → Bool)
    → AreRead ds said → AreKept said us → All (IsFor number port) us → is_open number ≡ true
    → shares port is_open (Some number) ds ≡ map message us
dump-asker ds said us number port is_open read are all opened =
    all-asker number port is_open opened ds us read.1 (subst (λ (ms : List (Lent ℕ)). AreKept ms us)
    (sym read.0) are) all

pub dump-others : (ds : List (List ℕ)) (said : List (Lent ℕ)) (us : List Untyped) (number port : ℕ) (is_open : ℕ → Bool)
    → AreRead ds said → AreKept said us → All (IsFor number port) us → is_open number ≡ true → (other : Option ℕ)
    → other ≢ Some number → shares port is_open other ds ≡ []
dump-others ds said us number port is_open read are all opened other differs =
    all-others number port is_open opened other ds us differs read.1
    (subst (λ (ms : List (Lent ℕ)). AreKept ms us) (sym read.0) are) all

-- ---- a reply

pub written-same : (w : Wire) (a b : List ℕ) → w ≡ Ok a → w ≡ Ok b → a ≡ b
written-same w a b is other = let both = sym is ∙ other in cc

module _ {T P : Type 0} (number_of : T → ℕ) (wire : P → Wire) (size : P → ℕ) (sized : (p : P) (bytes : List ℕ)
    → wire p ≡ Ok bytes → length bytes ≡ size p) (t : T) (flags : NlmF) (number port : ℕ) (body : P)
    (text bytes : List ℕ) (is : IsReply number_of wire size t flags number port body text bytes) where
  abbrev lent_reply : Lent ℕ
  lent_reply = (
    header_with (align (16 + length text)) (number_of t) flags number port,
    text ++ zeros_for (16 + length text),
  )

  walked : messages_in same bytes ≡ (lent_reply ∷ [], None)
  walked =
      let one = one-message number_of wire size sized t flags number port
      (payload.Payload body) bytes is.type_fits is.flags_fit is.number_fits is.port_fits is.bytes_are in
      let both : wire body ≡ Ok one.0 = one.1 in
      let texts : one.0 ≡ text = written-same (wire body) one.0 text both is.text_is in
      let long : length text ≡ size body = sized body text is.text_is in
      one.2 ∙ ap (λ (n : ℕ). (
        (
          header_with (align (16 + n)) (number_of t) flags number port,
          one.0 ++ zeros_for (16 + length one.0),
        ) ∷ [],
        None,
      )) (sym long)
      ∙ ap (λ (s : List ℕ). (
        (
          header_with (align (16 + length text)) (number_of t) flags number port,
          s ++ zeros_for (16 + length s),
        ) ∷ [],
        None,
      )) texts

  pub reply-cut : cut_of untyped_layout bytes ≡ (reply_kept (number_of t) flags number port text ∷ [], None)
  reply-cut =
      cut-untyped bytes (lent_reply ∷ []) (kept lent_reply ∷ [])
      (ap (λ (r : Result Untyped DeError). r ∷ []) (untyped-plain lent_reply is.is_plain)) walked

  reply-for : All (IsFor number port) (kept lent_reply ∷ [])
  reply-for = All-push (IsFor number port) [] (kept lent_reply) (All-nil (IsFor number port)) (refl, refl)

  pub reply-asker : (is_open : ℕ → Bool) → is_open number ≡ true
      → datagram_share port is_open (Some number) (cut_of untyped_layout bytes) []
      ≡ message (reply_kept (number_of t) flags number port text) ∷ []
  reply-asker is_open opened = share-asker number port is_open opened bytes (kept lent_reply ∷ []) reply-for reply-cut

  pub reply-other : (is_open : ℕ → Bool) (other : Option ℕ) → is_open number ≡ true → other ≢ Some number
      → datagram_share port is_open other (cut_of untyped_layout bytes) [] ≡ []
  reply-other is_open other opened differs = share-other number port is_open opened other bytes
      (kept lent_reply ∷ []) differs reply-for reply-cut

  -- the same bytes, if they arrived for groups
  pub notification-heard : (own group : ℕ) (groups : List ℕ) (is_open : ℕ → Bool)
      → datagram_share own is_open None (cut_of untyped_layout bytes) (group ∷ groups)
      ≡ message (reply_kept (number_of t) flags number port text) ∷ []
  notification-heard own group groups is_open = ap (λ (c : Cut Untyped). map message c.0) reply-cut

  pub notification-other : (own group : ℕ) (groups : List ℕ) (is_open : ℕ → Bool) (q : ℕ)
      → datagram_share own is_open (Some q) (cut_of untyped_layout bytes) (group ∷ groups) ≡ []
  notification-other own group groups is_open q = ap (λ (c : Cut Untyped). reader_fault c.1) reply-cut

-- ---- a control message

pub control-reply : (t : ℕ) (asked : Request) (bytes : List ℕ) → t ≢ 2 → t ≢ 3 → t < 65536 → IsAddressed asked
    → message_or_refusal (λ n. n) (λ b. Ok b) (control asked t) ≡ Ok bytes
    → IsReply (λ n. n) (λ b. Ok b) length t (flags_of 0) asked.header.sequence_number asked.port [] [] bytes
control-reply t asked bytes two three fits addressed is = record {
  is_plain = (two, three);
  type_fits = fits;
  flags_fit = omega arith;
  number_fits = addressed.0;
  port_fits = addressed.1;
  text_is = refl;
  bytes_are = is;
}
