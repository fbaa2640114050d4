-- A request that is read as a datagram.
use Rattle.std.proofs.Common.{◌≡◌, ℕ, ◌<◌, Bool, true, false, cond, List, length, Result, Ok, Err, refl, arith}
use Rattle.std.specs.Prelude.{codes, nat_lt}
use Rattle.std.proofs.lemmas.Bool.{ltb-false}
use Rattle.std.proofs.lemmas.Nat.{or_lt}
use Rattle.neli_wire.specs.Writing.{Wire}
use Rattle.neli_consts.specs.declared.nlm_f.NlmF.{NlmF}
use Rattle.neli_reader.specs.NlPayload.{NlPayload}
use Rattle.neli_reader.specs.RouterError.{RouterError}
use Rattle.neli_reader.specs.RouterError.TheVariants as router
use Rattle.neli_reader.specs.Wires.{message_wire}
use Rattle.neli_lent.specs.Written.{IsWalked}
use Rattle.neli_lent.specs.laws.Written.{written-walked}
use Rattle.neli_router.specs.Sends.{as_request, frame_or_refusal, request, request_length}

wire_is : {T P : Type 0} (w : Wire) (bytes : List ℕ) → as_request {T = T} {P = P} w ≡ Ok bytes → w ≡ Ok bytes
wire_is (Ok text) bytes h = cc
wire_is (Err e) bytes h = absurd cc

-- if the length is not refused, the result is the rest
unless_long : {T P : Type 0} (long : Bool) (e : RouterError T P) (w : Result (List ℕ) (RouterError T P))
    (bytes : List ℕ) → cond long (Err e) w ≡ Ok bytes → (long ≡ false) × (w ≡ Ok bytes)
unless_long true e w bytes h = absurd cc
unless_long false e w bytes h = (refl, h)

module _ {T P : Type 0} (number_of : T → ℕ) (wire : P → Wire) (size : P → ℕ) (sized : (p : P) (bytes : List ℕ)
    → wire p ≡ Ok bytes → length bytes ≡ size p) where
  -- it is the message, whose length fits its field
  sent-parts : (port number : ℕ) (in_use : Bool) (t : T) (flags : NlmF) (payload : NlPayload T P) (bytes : List ℕ)
      → frame_or_refusal number_of wire size port number in_use t flags payload ≡ Ok bytes
      → (request_length number_of wire size payload < 4294967296)
      × (message_wire number_of wire (request number_of wire size port number t flags payload) ≡ Ok bytes)
  sent-parts port number true t flags payload bytes h = absurd cc
  sent-parts port number false t flags payload bytes h =
      let length_of : ℕ = request_length number_of wire size payload in
      let too_long : RouterError T P = router.Msg (codes "Length does not fit its field") in
      let sent : Result (List ℕ) (RouterError T P) = as_request
      (message_wire number_of wire (request number_of wire size port number t flags payload)) in
      let parts = unless_long (nat_lt 4294967295 length_of) too_long sent bytes h in
      ((let le = ltb-false _ _ parts.0 in omega arith), wire_is {T = T} {P = P} _ bytes parts.1)

  -- so it is one message of a datagram
  pub one-request : (port number : ℕ) (in_use : Bool) (t : T) (flags : NlmF) (payload : NlPayload T P) (bytes : List ℕ)
      → port < 4294967296 → number < 4294967296 → number_of t < 65536 → flags.0 < 65536
      → frame_or_refusal number_of wire size port number in_use t flags payload ≡ Ok bytes
      → IsWalked number_of wire (request number_of wire size port number t flags payload) bytes
  one-request port number in_use t flags payload bytes port_fits number_fits type_fits flags_fit h =
      let parts = sent-parts port number in_use t flags payload bytes h in
      written-walked number_of wire size sized (request number_of wire size port number t flags payload) bytes
      (record {
        len = parts.0;
        message_type = type_fits;
        flags = or_lt 16 flags.0 1 flags_fit (omega arith);
        sequence_number = number_fits;
        port = port_fits;
      }) refl parts.1
