-- The marks that a returned message has from the stored one: its flags, and the code of a dump's end.
use Rattle.std.proofs.Common.{◌≡◌, ◌<◌, ℕ, Bool, true, false, List, length, Option, Some, None, Result, Ok, Err}
use Rattle.std.proofs.Common.{refl, sym, subst, ◌∙◌}
use Rattle.std.specs.List.{list_any, slice_get}
use Rattle.neli_wire.specs.declared.errors.DeError.{DeError}
use Rattle.neli_wire.specs.laws.Reading.{ok_is}
use Rattle.neli_reader.specs.Framed.{Nlmsghdr}
use Rattle.neli_reader.specs.Headers.{Header}
use Rattle.neli_reader.specs.NlPayload.{NlPayload}
use Rattle.neli_reader.specs.NlPayload.TheVariants as payload
use Rattle.neli_reader.specs.Nlmsgerr.{Nlmsgerr}
use Rattle.neli_reader.specs.Retyping.{payload_stating, stated_echo}
use Rattle.neli_deliveries.specs.Deliveries.{Untyped}
use Rattle.neli_deliveries.specs.Readings.{Item}
use Rattle.neli_runs.specs.declared.command.Command.TheVariants as command
use Rattle.neli_runs.specs.declared.command.Outcome.{Outcome}
use Rattle.neli_runs.specs.declared.command.Outcome.TheVariants as outcome
use Rattle.neli_runs.specs.History.{items_of}
use Rattle.neli_runs.specs.Outcomes.{IsAnswered, outcome_of}
use Rattle.neli_runs.specs.Reply.{Reply}
use Rattle.neli_runs.specs.Reply.TheVariants as reply
use Rattle.neli_runs.specs.Rule.{last_item, last_item_of_payload}
use Rattle.neli_kernel_laws.specs.Exchanges.{Exchange, ReadsGive, history_of, own_handle}
use Rattle.neli_kernel_laws.specs.Turns.{IsInTurn, IsReadAs, IsReplyOrEnd, is_err}
use Rattle.neli_kernel_laws.proofs.Turns.{item_is}
use Rattle.neli_kernel_laws.proofs.Typed.{read-flags}

-- ---- a returned message is the reading of its place

last-same : {K P : Type 0} (m given : Nlmsghdr K P) (p : NlPayload K P) → last_item_of_payload true false m p ≡ Ok given
    → m ≡ given
last-same m given (payload.Ack e) is = cc
last-same m given (payload.Err e) is = absurd cc
last-same m given (payload.Capped e) is = absurd cc
last-same m given (payload.DumpExtAck e) is = cc
last-same m given (payload.Payload p) is = cc
last-same m given payload.Empty is = cc

given-same : {K P : Type 0} (x : Item K P) (given : Nlmsghdr K P) → last_item true false x ≡ Ok given → x ≡ Ok given
given-same (Ok m) given is = let same : m ≡ given = last-same m given m.payload is in cc
given-same (Err e) given is = absurd cc

module _ {U K P : Type 0} (IsRead : U → Item K P → Type 0) where
  abbrev IsPlaceOf : Option U → Nlmsghdr K P → Type 0
  IsPlaceOf place m = (u : U) × (place ≡ Some u) × IsRead u (Ok m)

  place-by : (over : Bool) (place : Option U) (m : Nlmsghdr K P) → IsReplyOrEnd IsRead over place (reply.Item (Ok m))
      → IsPlaceOf place m
  place-by true place m is = absurd cc
  place-by false None m is = absurd cc
  place-by false (Some u) m (item, (x, read, given), is) =
      let here : item ≡ Ok m = item_is item (Ok m) (sym is) in
      let same : last_item true false x ≡ Ok m = sym given ∙ here in
      (u, refl, subst (λ (y : Item K P). IsRead u y) (given-same x m same) read)

  place-of : (us : List U) (given : List (Item K P)) (m : Nlmsghdr K P) → IsInTurn IsRead us given (reply.Item (Ok m))
      → IsPlaceOf (slice_get us (length given)) m
  place-of us given m is = place-by (list_any is_err given) (slice_get us (length given)) m is

-- ---- the code of a dump's end

stated-end : {K P V : Type 0} (n : ℕ) (view : P → V) (e : Nlmsgerr (Unit {0})) (p : NlPayload K P)
    → payload_stating n view p ≡ payload.DumpExtAck e → p ≡ payload.DumpExtAck e
stated-end n view e (payload.Ack f) is = absurd cc
stated-end n view e (payload.Err f) is = absurd cc
stated-end n view e (payload.Capped f) is = absurd cc
stated-end n view e (payload.DumpExtAck f) is = cc
stated-end n view e (payload.Payload f) is = absurd cc
stated-end n view e payload.Empty is = absurd cc

-- ---- reads of a request's handle

reply-is : {ST SP RT RP : Type 0} (o : Outcome ST SP RT RP) (m : Nlmsghdr RT RP) (r : Reply RT RP)
    → o ≡ outcome.Item (Ok m) → o ≡ outcome_of r → r ≡ reply.Item (Ok m)
reply-is o m (reply.Item item) item_is is = cc
reply-is o m reply.End item_is is = absurd cc
reply-is o m reply.Waits item_is is = absurd cc

module _ {ST SP K P V : Type 0} (type_of : ℕ → K) (number_of : K → ℕ) (view : P → V) (size : P → ℕ) (read : List ℕ
    → Result V DeError) (back : (n : ℕ) → n < 65536 → number_of (type_of n) ≡ n) (port : ℕ) (us : List Untyped)
    (x : Exchange ST SP K P) (m : Nlmsghdr K P)
    (gives : ReadsGive type_of number_of view size read port us x)
    (is : IsAnswered type_of number_of view size read port (history_of x) (command.Read (own_handle x))
    (outcome.Item (Ok m))) where
  abbrev place : Option Untyped
  place = slice_get us (length (items_of (own_handle x) (history_of x)))

  read-place : IsPlaceOf (IsReadAs type_of view size read) place m
  read-place =
      let turn = gives (outcome.Item (Ok m)) is in
      place-of (IsReadAs type_of view size read) us (items_of (own_handle x) (history_of x)) m
      (subst (λ (r : Reply K P). IsInTurn (IsReadAs type_of view size read) us
      (items_of (own_handle x) (history_of x)) r) (reply-is (outcome.Item (Ok m)) m turn.0 refl turn.2) turn.1)

  pub given-flags : (u : Untyped) × (place ≡ Some u) × (m.header.flags ≡ u.0.flags)
  given-flags = let p = read-place in
      (p.0, p.1, read-flags type_of number_of view size read back p.0 m p.2)

  pub given-code : (h : Header ℕ) (e : Nlmsgerr (Unit {0})) → place ≡ Some (h, payload.DumpExtAck e)
      → m.payload ≡ payload.DumpExtAck e
  given-code h e at =
      let p = read-place in
      let same : p.0 ≡ (h, payload.DumpExtAck e) = (let both = sym p.1 ∙ at in cc) in
      let end : IsReadAs type_of view size read (h, payload.DumpExtAck e) (Ok m) =
      subst (λ (u : Untyped). IsReadAs type_of view size read u (Ok m)) same p.2 in
      stated-end (stated_echo {K = ℕ} {P = List ℕ} (payload.DumpExtAck e)) view e m.payload (sym (ok_is _ _ end.0))
