-- The simulator's answers are whole, and its datagrams deliver the messages of their number.
use Rattle.std.proofs.Common.{◌≡◌, ◌≢◌, ◌<◌, ℕ, ◌++◌, All, Bool, true, false, ◌||◌, not, List}
use Rattle.std.proofs.Common.{[], ◌∷◌, None, refl, sym, ap, subst, ◌∙◌, inl, inr, arith}
use Rattle.std.specs.Prelude.{ℤ, flat_map, nat_eq, ◌==◌}
use Rattle.std.specs.List.{filter}
use Rattle.std.proofs.lemmas.Bool.{eq-eqb, ne_eqb}
use Rattle.std.proofs.lemmas.List.Elements.{All-cons, All-head, All-nil, All-tail}
use Rattle.neli_consts.specs.declared.nlm_f.NlmF.{NlmF}
use Rattle.neli_reader.specs.Agreement.{untyped_layout}
use Rattle.neli_reader.specs.Answers.{Attributes, answer}
use Rattle.neli_reader.specs.Cuts.{Cut, cut_of}
use Rattle.neli_reader.specs.Headers.{Header}
use Rattle.neli_reader.specs.Kinds.{is_multi}
use Rattle.neli_reader.specs.NlPayload.TheVariants as payload
use Rattle.neli_deliveries.specs.Deliveries.{Untyped, is_reply}
use Rattle.neli_kernel.specs.Answers.{acknowledgement, capped_error, error}
use Rattle.neli_kernel.specs.Delivered.{IsFor, answer_kept, reply_kept}
use Rattle.neli_kernel.specs.declared.request.Request.{Request}
use Rattle.neli_kernel_laws.specs.Complete.{IsComplete, IsEnding, IsError, IsPart, IsWhole}
use Rattle.neli_kernel_laws.specs.Served.{numbered}

-- ---- whole answers

-- one message that ends the answer is all of it
alone : (needs : Bool) (u : Untyped) → IsEnding needs (u ∷ []) → IsComplete needs (u ∷ [])
alone needs u ends = ([], u ∷ [], All-nil IsPart, ends, refl)

error-ends : (needs : Bool) (u : Untyped) → IsError u → IsEnding needs (u ∷ [])
error-ends true u is = is.0
error-ends false u is = inl is

pub acknowledgement_complete : (asked : Request) (attrs : Attributes)
    → IsComplete true (answer_kept (acknowledgement asked attrs) ∷ [])
acknowledgement_complete asked attrs = alone true (answer_kept (acknowledgement asked attrs)) refl

pub capped_complete : (needs : Bool) (asked : Request) (code : ℤ) (attrs : Attributes)
    → IsComplete needs (answer_kept (capped_error asked code attrs) ∷ [])
capped_complete needs asked code attrs =
    let u : Untyped = answer_kept (capped_error asked code attrs) in
    alone needs u (error-ends needs u (refl, refl))

pub error_complete : (needs : Bool) (asked : Request) (code : ℤ) (attrs : Attributes)
    → IsComplete needs (answer_kept (error asked code attrs) ∷ [])
error_complete needs asked code attrs =
    let u : Untyped = answer_kept (error asked code attrs) in
    alone needs u (error-ends needs u (refl, refl))

reply-whole : (message_type number port : ℕ) (flags : NlmF) (text : List ℕ) → message_type < 65536
    → is_multi flags ≡ false → IsWhole (reply_kept message_type flags number port text)
reply-whole message_type number port flags text fits single = record {
  no_answer = refl;
  whole = ap (λ (b : Bool). not b || (message_type == 3)) single;
  type_fits = fits;
}

pub reply_complete : (message_type number port : ℕ) (flags : NlmF) (text : List ℕ) → message_type < 65536
    → is_multi flags ≡ false → IsComplete false (reply_kept message_type flags number port text ∷ [])
reply_complete message_type number port flags text fits single =
    alone false (reply_kept message_type flags number port text)
    (inr (reply-whole message_type number port flags text fits single))

pub acknowledged_complete : (message_type number port : ℕ) (flags : NlmF) (text : List ℕ) (asked : Request)
    (attrs : Attributes) → message_type < 65536 → is_multi flags ≡ false
    → IsComplete true (reply_kept message_type flags number port text ∷ answer_kept (acknowledgement asked attrs) ∷ [])
acknowledged_complete message_type number port flags text asked attrs fits single = (
  [],
  reply_kept message_type flags number port text ∷ answer_kept (acknowledgement asked attrs) ∷ [],
  All-nil IsPart,
  (reply-whole message_type number port flags text fits single, refl),
  refl,
)

or_true : (b : Bool) → (b || true) ≡ true
or_true true = refl
or_true false = refl

pub dump_complete : (parts : List Untyped) (h : Header ℕ) (code : ℤ) (attrs : Attributes) → All IsPart parts
    → h.message_type ≡ 3 → IsComplete false (parts ++ (h, payload.DumpExtAck (answer code tt attrs)) ∷ [])
dump_complete parts h code attrs all three =
    let last : Untyped = (h, payload.DumpExtAck (answer code tt attrs)) in
    let whole : IsWhole last = record {
      no_answer = refl;
      whole = ap (λ (n : ℕ). not (is_multi h.flags) || (n == 3)) three ∙ or_true (not (is_multi h.flags));
      type_fits = omega (arith, three);
    } in
    (parts, last ∷ [], all, inr whole, refl)

-- the answers that are whole
pub ruleset whole_answers = (
  acknowledgement_complete,
  capped_complete,
  error_complete,
  reply_complete,
  acknowledged_complete,
  dump_complete,
)

-- ---- the messages of a number

filter-all : (number port : ℕ) (us : List Untyped) → All (IsFor number port) us
    → filter (λ u. u.0.sequence_number == number) us ≡ us
filter-all number port [] all = refl
filter-all number port (u ∷ us) all =
    let own : nat_eq u.0.sequence_number number ≡ true = eq-eqb _ _ (All-head (IsFor number port) u us all).0 in
    rw own (ap (λ (xs : List Untyped). u ∷ xs) (filter-all number port us (All-tail (IsFor number port) u us all)))

filter-none : (number port other : ℕ) (us : List Untyped) → other ≢ number → All (IsFor number port) us
    → filter (λ u. u.0.sequence_number == other) us ≡ []
filter-none number port other [] differs all = refl
filter-none number port other (u ∷ us) differs all =
    let first = All-head (IsFor number port) u us all in
    let own : nat_eq u.0.sequence_number other ≡ false = ne_eqb _ _ (λ e. differs (sym e ∙ first.0)) in
    rw own (filter-none number port other us differs (All-tail (IsFor number port) u us all))

pub own_numbered : (number port : ℕ) (datagram : List ℕ) (us : List Untyped)
    → cut_of untyped_layout datagram ≡ (us, None) → All (IsFor number port) us → numbered number datagram ≡ us
own_numbered number port datagram us cut all =
    ap (λ (c : Cut Untyped). filter (λ u. u.0.sequence_number == number) c.0) cut ∙ filter-all number port us all

pub others_numbered : (number port : ℕ) (datagram : List ℕ) (us : List Untyped)
    → cut_of untyped_layout datagram ≡ (us, None) → All (IsFor number port) us → (other : ℕ) → other ≢ number
    → numbered other datagram ≡ []
others_numbered number port datagram us cut all other differs =
    ap (λ (c : Cut Untyped). filter (λ u. u.0.sequence_number == other) c.0) cut
    ∙ filter-none number port other us differs all

-- ---- several datagrams

pub All-first : {A : Type 0} (P : A → Type 0) (xs ys : List A) → All P (xs ++ ys) → All P xs
All-first P [] ys h = All-nil P
All-first P (x ∷ xs) ys h = All-cons P x xs (All-head P x (xs ++ ys) h) (All-first P xs ys (All-tail P x (xs ++ ys) h))

pub All-later : {A : Type 0} (P : A → Type 0) (xs ys : List A) → All P (xs ++ ys) → All P ys
All-later P [] ys h = h
All-later P (x ∷ xs) ys h = All-later P xs ys (All-tail P x (xs ++ ys) h)

abbrev pub messages_cut : List ℕ → List Untyped
messages_cut d = (cut_of untyped_layout d).0

module _ (number port : ℕ) where
  abbrev AreFor : List ℕ → Type 0
  AreFor d = All (IsFor number port) (messages_cut d)

  each-numbered : (ds : List (List ℕ)) → All (IsFor number port) (flat_map messages_cut ds)
      → (flat_map (numbered number) ds ≡ flat_map messages_cut ds) × All AreFor ds
  each-numbered [] all = (refl, All-nil AreFor)
  each-numbered (d ∷ ds) all =
      let first = All-first (IsFor number port) (messages_cut d) (flat_map messages_cut ds) all in
      let rest = each-numbered ds (All-later (IsFor number port) (messages_cut d) (flat_map messages_cut ds) all) in (
        ap (λ (us : List Untyped). us ++ flat_map (numbered number) ds) (filter-all number port (messages_cut d) first)
            ∙ ap (λ (us : List Untyped). messages_cut d ++ us) rest.0,
        All-cons AreFor d ds first rest.1,
      )

  pub several_numbered : (ds : List (List ℕ)) (us : List Untyped) → flat_map messages_cut ds ≡ us
      → All (IsFor number port) us → (flat_map (numbered number) ds ≡ us) × All AreFor ds
  several_numbered ds us cut all =
      let each = each-numbered ds (subst (All (IsFor number port)) (sym cut) all) in
      (each.0 ∙ cut, each.1)

module _ (number port : ℕ) (is_open : ℕ → Bool) (opened : is_open number ≡ true) where
  abbrev Answered : Untyped → Type 0
  Answered u = is_reply port is_open u ≡ true

  one-answered : (u : Untyped) → IsFor number port u → Answered u
  one-answered u is =
      let here : nat_eq u.0.port port ≡ true = eq-eqb _ _ is.1 in
      let still : is_open u.0.sequence_number ≡ true = ap is_open is.0 ∙ opened in
      rw (here, still) refl

  pub all-answered : (us : List Untyped) → All (IsFor number port) us → All Answered us
  all-answered [] all = All-nil Answered
  all-answered (u ∷ us) all =
      All-cons Answered u us (one-answered u (All-head (IsFor number port) u us all))
      (all-answered us (All-tail (IsFor number port) u us all))

  pub cut_answered : (datagram : List ℕ) (us : List Untyped) → cut_of untyped_layout datagram ≡ (us, None)
      → All (IsFor number port) us → All (λ u. is_reply port is_open u ≡ true) (cut_of untyped_layout datagram).0
  cut_answered datagram us cut all = subst (λ (c : Cut Untyped). All Answered c.0) (sym cut) (all-answered us all)
