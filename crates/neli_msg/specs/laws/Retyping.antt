-- Laws of retyping: a message that is read untyped, and one that is read as other types.
use Rattle.std.proofs.Common.{◌≡◌, ℕ, ◌+◌, ◌-◌, ◌^◌, ◌<◌, Bool, true, false, cond, ltb, List}
use Rattle.std.proofs.Common.{length, take, drop, Result, Ok, Err, refl, sym, ap, subst, ◌∙◌}
use Rattle.std.specs.Prelude.{IsErr, IsOk, ◌↔◌}
use Rattle.std.proofs.lemmas.List.{get_or-drop}
use Rattle.byteorder.specs.Numbers.{little_from-lt}
use Rattle.neli_wire.specs.declared.errors.DeError.{DeError}
use Rattle.neli_wire.specs.declared.errors.DeError.TheVariants.{InvalidInput}
use Rattle.neli_wire.specs.Bytes.{short}
use Rattle.neli_wire.specs.Sizes.{align}
use Rattle.neli_wire.specs.Frames.{frame_at, number_in}
use Rattle.neli_wire.specs.Numbers.{AreBytes}
use Rattle.neli_wire.specs.Reading.{◌>>=◌}
use Rattle.neli_wire.specs.laws.Reading.{bind_ok, guard_ok, ok_is}
use Rattle.neli_consts.specs.declared.nlm_f.NlmF.{NlmF}
use Rattle.neli_msg.specs.declared.kind.Kind.{Kind}
use Rattle.neli_msg.specs.declared.kind.Kind.TheVariants.{Body, Nothing, DumpEnd, Acknowledgement, Capped, Failure}
use Rattle.neli_msg.specs.declared.kind.Tail.{Tail}
use Rattle.neli_msg.specs.declared.payload.NlPayload.{NlPayload}
use Rattle.neli_msg.specs.declared.payload.NlPayload.TheVariants as payload
use Rattle.neli_msg.specs.declared.answer.Nlmsgerr.{Nlmsgerr}
use Rattle.neli_msg.specs.Framed.{NlmsghdrErr}
use Rattle.neli_msg.specs.Answers.{Attributes, after, after_echo, answer, ext_ack_in, code_in}
use Rattle.neli_msg.specs.Answers.{dump_end_in, echo_with, echoed_in, failure_in, headed_in, tail_in}
use Rattle.neli_msg.specs.Headers.{Header, header_in, flags_of}
use Rattle.neli_msg.specs.Kinds.{kind_of, payload_as, payload_in}
use Rattle.neli_msg.specs.Messages.{Message, message_layout}
use Rattle.neli_msg.specs.Retyping.{IsRead, typed_acknowledgement, typed_echo, typed_failure}
use Rattle.neli_msg.specs.Retyping.{typed_header, typed_message, typed_payload}

-- the types of untyped messages: the type is its number, the body its bytes
abbrev same : ℕ → ℕ
same n = n

abbrev done : {A : Type 0} → A → Result A DeError
done x = Ok x

abbrev all : List ℕ → Result (List ℕ) DeError
all bytes = Ok bytes

-- a number by its place is one of its width
number_in-small : (n i : ℕ) (s : List ℕ) → AreBytes s → number_in n i s < 256 ^ n
number_in-small n i s bytes = little_from-lt 0 n (drop i s) (λ k. rw (get_or-drop i s k 0) (bytes (i + k)))

module _ {K V : Type 0} (type_of : ℕ → K) (read : List ℕ → Result V DeError) where
  -- ---- payloads

  -- a body that is read before attributes that exist
  echo-chain : (k : V → Attributes → Nlmsgerr (NlmsghdrErr K V)) (m : V
      → NlmsghdrErr K V) (attrs : Attributes) (of : NlmsghdrErr K V
      → Nlmsgerr (NlmsghdrErr K V)) (r : Result V DeError) (a : Result Attributes DeError) → a ≡ Ok attrs
      → ((v : V) → k v attrs ≡ of (m v)) → ((r >>= λ v. (a >>= λ x. Ok (k v x))) >>= λ e. Ok (payload.Err e))
      ≡ (((r >>= λ v. Ok (m v)) >>= λ x. Ok (of x)) >>= λ e. done {A = NlPayload K V} (payload.Err e))
  echo-chain k m attrs of (Ok v) a is each = rw (is, each v) refl
  echo-chain k m attrs of (Err d) a is each = refl

  -- an answer that echoes only a header
  headed-typed : (tail : Tail) (s : List ℕ) (x : Nlmsgerr (Header ℕ)) → headed_in same tail s ≡ Ok x
      → headed_in type_of tail s ≡ Ok (typed_acknowledgement type_of x)
  headed-typed tail s x e =
      let r = bind_ok (after 20 s) _ x e in
      let t = bind_ok (tail_in tail r.0) _ x r.2 in
      let known : answer (code_in s) (header_in same (drop 4 s)) t.0 ≡ x = ok_is _ x t.2 in
      rw (r.1, t.1) (ap (λ (y : Nlmsgerr (Header ℕ)). done (typed_acknowledgement type_of y)) known)

  payload_as-typed : (kind : Kind) (s : List ℕ) (u : NlPayload ℕ (List ℕ)) → payload_as same all kind s ≡ Ok u
      → payload_as type_of read kind s ≡ typed_payload type_of read u
  payload_as-typed Body s u e = ap (typed_payload type_of read) (ok_is (payload.Payload s) u e)
  payload_as-typed Nothing s u e = ap (typed_payload type_of read) (ok_is payload.Empty u e)
  payload_as-typed DumpEnd s u e =
      let b = bind_ok (dump_end_in s) _ u e in
      rw b.1 (ap (typed_payload type_of read) (ok_is (payload.DumpExtAck b.0) u b.2))
  payload_as-typed (Acknowledgement tail) s u e =
      let b = bind_ok (headed_in same tail s) _ u e in
      rw (headed-typed tail s b.0 b.1) (ap (typed_payload type_of read) (ok_is (payload.Ack b.0) u b.2))
  payload_as-typed (Capped tail) s u e =
      let b = bind_ok (headed_in same tail s) _ u e in
      rw (headed-typed tail s b.0 b.1) (ap (typed_payload type_of read) (ok_is (payload.Capped b.0) u b.2))
  payload_as-typed Failure s u e =
      let b = bind_ok (failure_in same all s) _ u e in
      let r = bind_ok (after 20 s) _ b.0 b.1 in
      let body = bind_ok (echoed_in s) _ b.0 r.2 in
      let attrs = bind_ok (ext_ack_in (after_echo s)) _ b.0 body.2 in
      let known : answer (code_in s) (echo_with same s body.0) attrs.0 ≡ b.0 = ok_is _ b.0 attrs.2 in
      rw (r.1, body.1)
      (echo-chain (λ v x. answer (code_in s) (echo_with type_of s v) x) (echo_with type_of s) attrs.0
      (λ m. answer (code_in s) m attrs.0) (read body.0) (ext_ack_in (after_echo s)) attrs.1 (λ v. refl)
      ∙ ap (typed_payload type_of read) (ap (λ (x : Nlmsgerr (NlmsghdrErr ℕ (List ℕ))). payload.Err x) known
      ∙ ok_is (payload.Err b.0) u b.2))

  -- a payload read untyped, and then typed, is the payload read as the other types
  pub payload_in-typed : (number : ℕ) (flags : NlmF) (s : List ℕ) (u : NlPayload ℕ (List ℕ))
      → payload_in same all number flags s ≡ Ok u → payload_in type_of read number flags s
      ≡ typed_payload type_of read u
  payload_in-typed number flags s u = payload_as-typed (kind_of number flags s) s u

  -- ---- refusals

  -- where the first is refused, so is the second
  abbrev Fails : {A B : Type 0} → Result A DeError → Result B DeError → Type 0
  Fails p q = (e : DeError) → p ≡ Err e → IsErr q

  fails-then : {A B C : Type 0} (a : Result A DeError) (f : A → Result B DeError) (g : A → Result C DeError)
      → ((x : A) → Fails (f x) (g x)) → Fails (a >>= f) (a >>= g)
  fails-then (Ok x) f g each e is = each x e is
  fails-then (Err d) f g each e is = refl

  fails-not : {A B : Type 0} (x : A) (q : Result B DeError) → Fails (done x) q
  fails-not x q e is = absurd cc

  -- a body is read before attributes that are refused
  fails-after : {A B C : Type 0} (r : Result V DeError) (a : Result A DeError) (f : Result B DeError) (k : V → A → C)
      → Fails f a → Fails f (r >>= λ v. (a >>= λ x. Ok (k v x)))
  fails-after (Err d) a f k both e is = refl
  fails-after (Ok v) (Err d) f k both e is = refl
  fails-after (Ok v) (Ok x) f k both e is = both e is

  fails-bind : {A B C : Type 0} (p : Result A DeError) (f : A → B) (q : Result C DeError) → Fails p q
      → Fails (p >>= λ x. Ok (f x)) q
  fails-bind (Ok x) f q both e is = absurd cc
  fails-bind (Err d) f q both e is = both d refl

  fails-map : {A B C : Type 0} (p : Result A DeError) (q : Result B DeError) (g : B → C) → Fails p q
      → Fails p (q >>= λ x. Ok (g x))
  fails-map p (Ok x) g both e is = both e is
  fails-map p (Err d) g both e is = refl

  failure_in-fails : (s : List ℕ) → Fails (failure_in same all s) (failure_in type_of read s)
  failure_in-fails s =
      fails-then (after 20 s) _ _ (λ rest.
      fails-then (echoed_in s) _ _ (λ body.
      fails-after (read body) (ext_ack_in (after_echo s)) _ (λ v x. answer (code_in s) (echo_with type_of s v) x)
      (fails-bind (ext_ack_in (after_echo s)) (λ x. answer (code_in s) (echo_with same s body) x)
      (ext_ack_in (after_echo s)) (λ e is. rw is refl))))

  headed-fails : (tail : Tail) (s : List ℕ) → Fails (headed_in same tail s) (headed_in type_of tail s)
  headed-fails tail s =
      fails-then (after 20 s) _ _ (λ rest.
      fails-then (tail_in tail rest) _ _ (λ attrs. fails-not (answer (code_in s) (header_in same (drop 4 s)) attrs)
      (done (answer (code_in s) (header_in type_of (drop 4 s)) attrs))))

  payload_as-fails : (kind : Kind) (s : List ℕ) → Fails (payload_as same all kind s) (payload_as type_of read kind s)
  payload_as-fails Body s = fails-not (payload.Payload s) (payload_as type_of read Body s)
  payload_as-fails Nothing s = fails-not payload.Empty (payload_as type_of read Nothing s)
  payload_as-fails DumpEnd s = fails-then (dump_end_in s) _ _ (λ x. fails-not (payload.DumpExtAck x)
      (done {A = NlPayload K V} (payload.DumpExtAck x)))
  payload_as-fails (Acknowledgement tail) s =
      fails-bind (headed_in same tail s) (λ x. payload.Ack x) _
      (fails-map (headed_in same tail s) (headed_in type_of tail s) (λ x. payload.Ack x) (headed-fails tail s))
  payload_as-fails (Capped tail) s =
      fails-bind (headed_in same tail s) (λ x. payload.Capped x) _
      (fails-map (headed_in same tail s) (headed_in type_of tail s) (λ x. payload.Capped x) (headed-fails tail s))
  payload_as-fails Failure s =
      fails-bind (failure_in same all s) (λ x. payload.Err x) _
      (fails-map (failure_in same all s) (failure_in type_of read s) (λ x. payload.Err x) (failure_in-fails s))

  -- ---- messages

  module _ (number_of : K → ℕ) (back : (n : ℕ) → n < 256 ^ 2 → number_of (type_of n) ≡ n) where
    untyped-is : (s : List ℕ) → AreBytes s → number_of (type_of (number_in 2 4 s)) ≡ number_in 2 4 s
    untyped-is s bytes = back (number_in 2 4 s) (number_in-small 2 4 s bytes)

    -- the parts before the padding, and the padding
    message-by : (s : List ℕ) (u : NlPayload ℕ (List ℕ)) → number_of (type_of (number_in 2 4 s)) ≡ number_in 2 4 s
        → ltb (length s) 16 ≡ false → ltb (number_in 4 0 s) 16 ≡ false → ltb (length s) (number_in 4 0 s) ≡ false
        → payload_in type_of read (number_in 2 4 s) (flags_of (number_in 2 6 s))
        (take (number_in 4 0 s - 16) (drop 16 s)) ≡ typed_payload type_of read u
        → ltb (length s) (align (number_in 4 0 s)) ≡ false
        → frame_at (message_layout type_of number_of read) s
        ≡ (typed_payload type_of read u >>= λ v. done {A = Message K V × List ℕ} (
          (header_in type_of s, v),
          drop (align (number_in 4 0 s)) s,
        ))
    unfolding frame_at
    message-by s u numbers head least within typed whole =
        let end = drop (align (number_in 4 0 s)) s in
        let F : Bool → Type 0 = λ x. (typed_payload type_of read u >>= λ v. cond x (Err short)
        (done {A = Message K V × List ℕ} ((header_in type_of s, v), end)))
        ≡ (typed_payload type_of read u >>= λ v. done {A = Message K V × List ℕ} ((header_in type_of s, v), end)) in
        rw (head, least, within, numbers, typed) (subst F (sym whole) refl)

    chain : (p : Result (NlPayload K V) DeError) (h : Header K) (rest : List ℕ)
        → (p >>= λ v. done {A = Message K V × List ℕ} ((h, v), rest))
        ≡ ((p >>= λ v. done {A = Message K V} (h, v)) >>= λ t. done (t, rest))
    chain (Ok v) h rest = refl
    chain (Err d) h rest = refl

    -- a message read untyped, and then typed, is the message read as the other types
    pub message-typed : (s r : List ℕ) (m : Message ℕ (List ℕ)) → AreBytes s
        → frame_at (message_layout same same all) s ≡ Ok (m, r)
        → frame_at (message_layout type_of number_of read) s ≡ (typed_message type_of read m >>= λ t. Ok (t, r))
    unfolding frame_at
    message-typed s r m bytes e =
        let n = number_in 4 0 s in
        let flags = flags_of (number_in 2 6 s) in
        let g1 = guard_ok (ltb (length s) 16) short _ (m, r) e in
        let g2 = guard_ok (ltb n 16) (InvalidInput n) _ (m, r) g1.1 in
        let g3 = guard_ok (ltb (length s) n) (InvalidInput (n - 16)) _ (m, r) g2.1 in
        let b = bind_ok (payload_in same all (number_in 2 4 s) flags (take (n - 16) (drop 16 s))) _ (m, r) g3.1 in
        let g4 = guard_ok (ltb (length s) (align n)) short _ (m, r) b.2 in
        let typed = payload_in-typed (number_in 2 4 s) flags (take (n - 16) (drop 16 s)) b.0 b.1 in
        let P : Message ℕ (List ℕ) × List ℕ → Type 0 =
        λ q. (typed_payload type_of read b.0 >>= λ v. done {A = Message K V × List ℕ} (
          (header_in type_of s, v),
          drop (align n) s,
        )) ≡ (typed_message type_of read q.0 >>= λ t. done (t, q.1)) in
        message-by s b.0 (untyped-is s bytes) g1.0 g2.0 g3.0 typed g4.0
        ∙ subst P (ok_is ((header_in same s, b.0), drop (align n) s) (m, r) g4.1)
        (chain (typed_payload type_of read b.0) (header_in type_of s) (drop (align n) s))

    fails-guard : {A B : Type 0} (b : Bool) (d : DeError) (p : Result A DeError) (q : Result B DeError) → Fails p q
        → Fails (cond b (Err d) p) (cond b (Err d) q)
    fails-guard true d p q both e is = refl
    fails-guard false d p q both e is = both e is

    -- a payload, and then padding that may be missing
    fails-end : {A B C D : Type 0} (p : Result A DeError) (q : Result B DeError) (c : Bool) (d : DeError) (f : A
        → C) (g : B → D) → Fails p q → Fails (p >>= λ x. cond c (Err d) (Ok (f x)))
        (q >>= λ y. cond c (Err d) (Ok (g y)))
    fails-end p (Err z) c d f g both e is = refl
    fails-end p (Ok y) true d f g both e is = refl
    fails-end (Ok x) (Ok y) false d f g both e is = absurd cc
    fails-end (Err z) (Ok y) false d f g both e is = both z refl

    -- where a message is refused untyped, it is refused as other types
    pub message-fails : (s : List ℕ) → AreBytes s → Fails (frame_at (message_layout same same all) s)
        (frame_at (message_layout type_of number_of read) s)
    unfolding frame_at
    message-fails s bytes =
        let n = number_in 4 0 s in
        let flags = flags_of (number_in 2 6 s) in
        let body = take (n - 16) (drop 16 s) in
        rw (untyped-is s bytes)
        (fails-guard (ltb (length s) 16) short _ _
        (fails-guard (ltb n 16) (InvalidInput n) _ _
        (fails-guard (ltb (length s) n) (InvalidInput (n - 16)) _ _
        (fails-end (payload_in same all (number_in 2 4 s) flags body)
        (payload_in type_of read (number_in 2 4 s) flags body) (ltb (length s) (align n)) short _ _
        (payload_as-fails (kind_of (number_in 2 4 s) flags body) body)))))

  -- ---- when retyping succeeds

  ok-map : {A B : Type 0} (r : Result A DeError) (f : A → B) → IsOk (r >>= λ x. done (f x)) ↔ IsOk r
  ok-map (Ok x) f = (λ h. h, λ h. h)
  ok-map (Err d) f = (λ h. h, λ h. h)

  typed_payload-ok : (u : NlPayload ℕ (List ℕ)) → IsOk (typed_payload type_of read u) ↔ IsRead read u
  typed_payload-ok (payload.Payload bytes) = ok-map (read bytes) (λ v. payload.Payload v)
  typed_payload-ok (payload.Err e) =
      let inner = ok-map (read e.nlmsg.payload.0) (λ v. record {
        header = typed_header type_of e.nlmsg.header;
        payload = record { 0 = v };
      }) in
      let one = ok-map (typed_echo type_of read e.nlmsg) (λ m. answer e.error m e.ext_ack) in
      let two = ok-map (typed_failure type_of read e) (λ f. payload.Err f) in
      (λ h. inner.0 (one.0 (two.0 h)), λ h. two.1 (one.1 (inner.1 h)))
  typed_payload-ok (payload.Ack e) = (λ h. tt, λ h. refl)
  typed_payload-ok (payload.Capped e) = (λ h. tt, λ h. refl)
  typed_payload-ok (payload.DumpExtAck e) = (λ h. tt, λ h. refl)
  typed_payload-ok payload.Empty = (λ h. tt, λ h. refl)

  pub typed_message-ok : (m : Message ℕ (List ℕ)) → IsOk (typed_message type_of read m) ↔ IsRead read m.1
  typed_message-ok m =
      let whole = ok-map (typed_payload type_of read m.1) (λ p. (typed_header type_of m.0, p)) in
      let part = typed_payload-ok m.1 in
      (λ h. part.0 (whole.0 h), λ h. whole.1 (part.1 h))
