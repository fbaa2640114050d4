-- Retyping a whole body, and refusals passed on.
use Rattle.std.proofs.Common.{◌≡◌, ℕ, List, length, Result, Ok, Err, refl, sym, subst, ◌∙◌, arith}
use Rattle.std.specs.Prelude.{IfErr, IsErrAnd}
use Rattle.std.proofs.lemmas.Bool.{le-ltb}
use Rattle.std.proofs.lemmas.List.{take_all}
use Rattle.neli_wire.specs.declared.errors.DeError.{DeError}
use Rattle.neli_msg.specs.declared.payload.NlPayload.{NlPayload}
use Rattle.neli_msg.specs.declared.payload.NlPayload.TheVariants as payload
use Rattle.neli_msg.specs.declared.router_error.RouterError.{RouterError}
use Rattle.neli_msg.specs.declared.router_error.RouterError.TheVariants as router
use Rattle.neli_msg.specs.Retyping.{RefusesTyping, body_count, typed_first, typed_payload}

module _ {K V : Type 0} (type_of : ℕ → K) (read : List ℕ → Result V DeError) where
  first-all : (p : NlPayload ℕ (List ℕ)) → typed_first type_of read (body_count p) p ≡ typed_payload type_of read p
  first-all (payload.Payload bytes) = rw (
    le-ltb (length bytes) (length bytes) (omega arith),
    take_all (length bytes) bytes (omega arith),
  ) refl
  first-all (payload.Err e) = refl
  first-all (payload.Ack e) = refl
  first-all (payload.Capped e) = refl
  first-all (payload.DumpExtAck e) = refl
  first-all payload.Empty = refl

  -- all the bytes of a body are its first ones
  pub first-whole : (n : ℕ) (p : NlPayload ℕ (List ℕ)) → n ≡ body_count p
      → typed_first type_of read n p ≡ typed_payload type_of read p
  first-whole n p e = rw e (first-all p)

refuses-more : {A T P : Type 0} (one two : Result A DeError) (less more : Type 0) (e : RouterError T P) → one ≡ two
    → (less → more) → RefusesTyping one less e → RefusesTyping two more e
refuses-more one two less more (router.De x) same f h = sym same ∙ h
refuses-more one two less more (router.Msg text) same f h = (h.0, f h.1)
refuses-more one two less more router.Memory same f h = tt
refuses-more one two less more (router.Io k) same f h = h
refuses-more one two less more (router.Socket x) same f h = h
refuses-more one two less more (router.Nlmsgerr x) same f h = h
refuses-more one two less more (router.Capped x) same f h = h
refuses-more one two less more (router.BadSeqOrPid x) same f h = h
refuses-more one two less more router.NoAck same f h = h
refuses-more one two less more router.UnexpectedAck same f h = h
refuses-more one two less more router.ClosedChannel same f h = h
refuses-more one two less more (router.SeqInUse n) same f h = h

-- a refusal passed on unchanged
pub refuses-passed : {A B T P : Type 0} (r : Result B (RouterError T P)) (e : RouterError T P)
    (one two : Result A DeError) (less more : Type 0) → IsErrAnd r (λ d. d ≡ e) → one ≡ two → (less → more)
    → RefusesTyping one less e → IfErr r (RefusesTyping two more)
refuses-passed (Ok x) e one two less more is same f h = tt
refuses-passed {T = T} {P = P} (Err d) e one two less more is same f h =
    let F : RouterError T P → Type 0 = λ x. RefusesTyping two more x in
    subst F (sym is) (refuses-more one two less more e same f h)
