-- Requests: the frame where flags and body were converted, and why nothing is sent.
use Rattle.std.proofs.Common.{◌≡◌, ◌≢◌, ◌⊎◌, ◌≤◌, ℕ, ◌+◌, ℤ, Bool, true, false, List, Result, length, Ok, Err}
use Rattle.std.proofs.Common.{if◌then◌else◌, nat_le, nat_lt, ap, arith, inl, inr, refl, subst, sym, ◌∙◌}
use Rattle.std.proofs.lemmas.Bool.{le-leb, le-ltb}
use Rattle.neli_consts.specs.declared.nlm_f.NlmF.{NlmF}
use Rattle.neli_reader.specs.NlPayload.TheVariants as payload
use Rattle.neli_reader.specs.RouterError.{RouterError}
use Rattle.neli_reader.specs.RouterError.TheVariants as router
use Rattle.neli_reader.specs.laws.Wires.{message_wire-length}
use Rattle.neli_router.specs.Sends.{RefusesSend, as_request, frame_or_refusal, request, request_length}
use Rattle.neli_wire.specs.Sizes.{align}
use Rattle.neli_wire.specs.Writing.{Wire}
use Rattle.neli_wire.specs.laws.Writing.{written-length}
use Rattle.neli_c_parts.specs.declared.session.Session.{Session}
use Rattle.neli_c_parts.specs.Codes.{bad_length, in_use, memory, ok, room}
use Rattle.neli_c_parts.specs.Sessions.{RefusesRequest, error_code, is_open, size_code}

pub frame-converted : (port number : ℕ) (in_use : Bool) (message_type : ℕ) (f g : NlmF) (b d bytes : List ℕ) → f ≡ g
    → b ≡ d
    → frame_or_refusal {T = ℕ} {P = List ℕ} (λ n. n) (λ b. Ok b) length port number in_use message_type f
    (payload.Payload b) ≡ Ok bytes
    → frame_or_refusal {T = ℕ} {P = List ℕ} (λ n. n) (λ b. Ok b) length port number in_use message_type g
    (payload.Payload d) ≡ Ok bytes
frame-converted port number in_use message_type f g b d bytes flags body e =
    subst (λ (h : NlmF). frame_or_refusal {T = ℕ} {P = List ℕ} (λ n. n)
    (λ b. Ok b) length port number in_use message_type h (payload.Payload d) ≡ Ok bytes) flags
    (subst (λ (x : List ℕ). frame_or_refusal {T = ℕ} {P = List ℕ} (λ n. n)
    (λ b. Ok b) length port number in_use message_type f (payload.Payload x) ≡ Ok bytes) body e)

kept : {V E : Type 0} (b : Bool) (d : E) (x : Result V E) (y : V) → (if b then Err d else x) ≡ Ok y → x ≡ Ok y
kept true d x y e = absurd cc
kept false d x y e = e

wire-kept : {T P : Type 0} (w : Wire) (bytes : List ℕ) → as_request {T = T} {P = P} w ≡ Ok bytes → w ≡ Ok bytes
wire-kept (Ok b) bytes e = (let same : b ≡ bytes = cc in ap (λ (x : List ℕ). Ok x) same)
wire-kept (Err d) bytes e = absurd cc

-- its length: header and body, rounded up to four
pub frame-length : (port number : ℕ) (in_use : Bool) (message_type : ℕ) (f : NlmF) (b bytes : List ℕ)
    → frame_or_refusal {T = ℕ} {P = List ℕ} (λ n. n) (λ b. Ok b) length port number in_use message_type f
    (payload.Payload b) ≡ Ok bytes → length bytes ≡ align (16 + length b)
frame-length port number in_use message_type f b bytes e =
    let own = request {T = ℕ} {P = List ℕ} (λ n. n) (λ b. Ok b) length port number message_type f (payload.Payload b) in
    let free = kept in_use _ _ bytes e in
    let short = kept (nat_lt 4294967295 (request_length {T = ℕ} {P = List ℕ} (λ n. n) (λ b. Ok b) length
    (payload.Payload b))) _ _ bytes free in
    message_wire-length {K = ℕ} {P = List ℕ} (λ n. n) (λ b. Ok b) length
    (λ p bytes is. written-length p bytes (length p) refl is) own bytes (wire-kept _ bytes short)

-- ---- why nothing is sent

-- by the size of a request with a body of so many bytes
abbrev code_by_size : ℕ → ℕ → ℤ
code_by_size n most = size_code (align (16 + n)) most

not-long : (n most : ℕ) → n ≤ 4294967276
    → code_by_size n most ≡ (if nat_lt most (align (16 + n)) then room else ok)
not-long n most short =
    ap (λ (b : Bool). if b then bad_length else (if nat_lt most (align (16 + n)) then room else ok))
    (le-ltb 4294967295 (align (16 + n)) (omega (arith, short)))

pub fitting-code : (n most : ℕ) → n ≤ 4294967276 → align (16 + n) ≤ most → code_by_size n most ≡ ok
fitting-code n most short fits = not-long n most short
    ∙ ap (λ (b : Bool). if b then room else ok) (le-ltb most (align (16 + n)) fits)

-- if size is no cause, by one of two causes
pub refused-else : (body : List ℕ) (s : Session) (out : List ℕ) (code : ℤ)
    → code_by_size (length body) (length out) ≡ ok
    → ((code ≡ in_use) × (is_open s s.router.next_seq ≡ true)) ⊎ (code ≡ memory) → RefusesRequest code body s out
refused-else body s out code fits cause = (λ big. absurd (big fits), λ _. cause)

-- a refusal is for memory, or has its cause
by-cause : {T P : Type 0} (outcome : Result (List ℕ) (RouterError T P)) (takes : Type 0) (e : RouterError T P)
    → RefusesSend outcome takes e → (e ≡ router.Memory) ⊎ (outcome ≡ Err e)
by-cause outcome takes (router.Msg t) r = inr r
by-cause outcome takes (router.Io k) r = inr r
by-cause outcome takes (router.De d) r = inr r
by-cause outcome takes (router.Socket x) r = inr r
by-cause outcome takes (router.Nlmsgerr a) r = inr r
by-cause outcome takes (router.Capped a) r = inr r
by-cause outcome takes (router.BadSeqOrPid m) r = inr r
by-cause outcome takes router.NoAck r = inr r
by-cause outcome takes router.UnexpectedAck r = inr r
by-cause outcome takes router.ClosedChannel r = inr r
by-cause outcome takes (router.SeqInUse q) r = inr r
by-cause outcome takes router.Memory r = inl refl

-- a frame that fits is refused only if its number is in use
in-use-only : (number : ℕ) (used long : Bool) (text bytes : List ℕ)
    (rest : Result (List ℕ) (RouterError ℕ (List ℕ))) (e : RouterError ℕ (List ℕ))
    → (if used then Err (router.SeqInUse number) else (if long then Err (router.Msg text) else rest)) ≡ Err e
    → rest ≡ Ok bytes → long ≡ false → (error_code e ≡ in_use) × (used ≡ true)
in-use-only number true long text bytes rest e is fits short =
    let same : router.SeqInUse number ≡ e = cc in (sym (ap error_code same), refl)
in-use-only number false true text bytes rest e is fits short = absurd cc
in-use-only number false false text bytes rest e is fits short = absurd cc

pub refusal-code : (port number : ℕ) (used : Bool) (message_type : ℕ) (f : NlmF) (b : List ℕ) (takes : Type 0)
    (e : RouterError ℕ (List ℕ)) → length b ≤ 4294967276
    → RefusesSend (frame_or_refusal {T = ℕ} {P = List ℕ} (λ n. n) (λ b. Ok b) length port number used message_type f
    (payload.Payload b)) takes e → ((error_code e ≡ in_use) × (used ≡ true)) ⊎ (error_code e ≡ memory)
refusal-code port number used message_type f b takes e short r =
    elim (by-cause (frame_or_refusal {T = ℕ} {P = List ℕ} (λ n. n) (λ b. Ok b) length port number used message_type f
    (payload.Payload b)) takes e r) [
      | inl is ↦ inr (ap error_code is)
      | inr is ↦ inl (in-use-only number used (nat_lt 4294967295 (align (16 + length b))) _ _ _ e is refl
          (le-ltb 4294967295 (align (16 + length b)) (omega (arith, short))))
    ]

-- neither cause depends on room
pub no-matter-of-room : (code : ℤ) (used : Bool) → ((code ≡ in_use) × (used ≡ true)) ⊎ (code ≡ memory) → code ≢ room
no-matter-of-room code used (inl cause) = λ is. (let bad : in_use ≡ room = sym cause.0 ∙ is in absurd cc)
no-matter-of-room code used (inr cause) = λ is. (let bad : memory ≡ room = sym cause ∙ is in absurd cc)

-- a frame for which the room was found is copied
pub copied-code : (port number : ℕ) (used : Bool) (message_type : ℕ) (f : NlmF) (b body bytes written out : List ℕ)
    (code : ℤ)
    → frame_or_refusal {T = ℕ} {P = List ℕ} (λ n. n) (λ b. Ok b) length port number used message_type f
    (payload.Payload b) ≡ Ok bytes
    → b ≡ body → written ≡ bytes → align (16 + length body) ≤ length out
    → code ≡ (if nat_le (length written) (length out) then ok else room) → code ≡ ok
copied-code port number used message_type f b body bytes written out code is same all fits copied =
    let long : length bytes ≡ align (16 + length b) = frame-length port number used message_type f b bytes is in
    let of_body : length b ≡ length body = ap (λ (x : List ℕ). length x) same in
    let of_bytes : length written ≡ length bytes = ap (λ (x : List ℕ). length x) all in
    copied ∙ ap (λ (x : Bool). if x then ok else room)
    (le-leb (length written) (length out) (omega (arith, long, of_body, of_bytes, fits)))
