-- Requests that are refused.
use Rattle.std.proofs.Common.{◌≡◌, ℕ, Bool, true, false, Ok, Err, Result, None, Some, refl, sym, ap, subst}
use Rattle.std.specs.Prelude.{IfErr, IsErrAnd, codes, if◌then◌else◌, nat_lt}
use Rattle.neli_wire.specs.Refusals.{IsRefusal, ser_ran_out}
use Rattle.neli_wire.specs.declared.errors.SerError.{SerError}
use Rattle.neli_wire.specs.declared.errors.SerError.TheVariants as ser
use Rattle.neli_wire.specs.Writing.{Wire}
use Rattle.neli_attr.specs.Builders.{Outcome, ◌>>>◌}
use Rattle.neli_attr.specs.Builders.Fault.{Invalid}
use Rattle.neli_consts.specs.declared.nlm_f.NlmF.{NlmF}
use Rattle.neli_reader.specs.Builders.{built_message, header_with}
use Rattle.neli_reader.specs.Framed.{Nlmsghdr}
use Rattle.neli_reader.specs.NlPayload.{NlPayload}
use Rattle.neli_reader.specs.RouterError.{RouterError}
use Rattle.neli_reader.specs.RouterError.TheVariants as router
use Rattle.neli_reader.specs.RouterErrors.{socket_of}
use Rattle.neli_reader.specs.SocketErrors.{of_ser}
use Rattle.neli_reader.specs.Wires.{message_wire}
use Rattle.neli_router.specs.Sends.{RefusesSend, TakesMemory, as_request, request, request_length, frame_or_refusal}
use Rattle.neli_router.specs.Sends.{with_request}

module _ {T P : Type 0} (number_of : T → ℕ) (wire : P → Wire) (size : P → ℕ) where
  -- a refusal to write is that of the request
  refused-write : (w : Wire) (room takes : Type 0) (e : SerError) → takes → IsRefusal ser_ran_out w room e
      → RefusesSend {T = T} {P = P} (as_request w) takes (socket_of (of_ser e))
  refused-write w room takes (ser.Msg m) t r = ap as_request r
  refused-write w room takes (ser.Io k) t r = ap as_request r
  refused-write w room takes (ser.Utf8 u) t r = ap as_request r
  refused-write w room takes ser.Memory t r = t

  module _ (port number : ℕ) (t : T) (f : NlmF) (p : NlPayload T P) (m : Nlmsghdr T P) (room : Type 0)
      (e : SerError) where
    -- the same where the length is known to fit or not
    abbrev built : Bool → Outcome (Nlmsghdr T P)
    built b =
        (if b then Err (Invalid (codes "Length does not fit its field"))
        else Ok (request_length number_of wire size p)) >>> λ len. Ok
        (record { header = header_with len t (with_request f) number port; payload = p })

    refused-by : (b : Bool) → built b ≡ Ok m → IsRefusal ser_ran_out (message_wire number_of wire m) room e
        → RefusesSend {T = T} {P = P} (if b then Err (router.Msg (codes "Length does not fit its field"))
        else as_request (message_wire number_of wire (request number_of wire size port number t f p))) ((false ≡ false)
        × (b ≡ false)) (socket_of (of_ser e))
    refused-by true is r = absurd cc
    refused-by false is r =
        let same : request number_of wire size port number t f p ≡ m = cc in
        refused-write (message_wire number_of wire (request number_of wire size port number t f p)) room
        ((false ≡ false) × (false ≡ false)) e (refl, refl)
        (subst (λ (x : Nlmsghdr T P). IsRefusal ser_ran_out (message_wire number_of wire x) room e) (sym same) r)

    -- why a built request is not sent
    pub refused-request : built_message size (record {
      header = record {
        nl_len = None;
        nl_type = Some t;
        nl_flags = Some (with_request f);
        nl_seq = Some number;
        nl_pid = Some port;
      };
      payload = Some p;
    }) ≡ Ok m
        → IsRefusal ser_ran_out (message_wire number_of wire m) room e
        → RefusesSend {T = T} {P = P} (frame_or_refusal number_of wire size port number false t f p)
        (TakesMemory number_of wire size false p) (socket_of (of_ser e))
    refused-request is r = refused-by (nat_lt 4294967295 (request_length number_of wire size p)) is r

-- a refusal that is passed on as it is
pub refused_passed : {B E : Type 0} (P : E → Type 0) (r : Result B E) (e : E) → IsErrAnd r (λ d. d ≡ e) → P e
    → IfErr r P
refused_passed P (Ok x) e is why = tt
refused_passed P (Err d) e is why = subst P (sym is) why

-- the refusal of a request's bytes is that of the request: its port is the router's, and its number is not in use
pub refused_request : {T P B : Type 0} (number_of : T → ℕ) (wire : P → Wire) (size : P
    → ℕ) (port own number : ℕ) (in_use : Bool) (t : T) (flags : NlmF) (payload : NlPayload T P)
    (r : Result B (RouterError T P)) (e : RouterError T P) → port ≡ own → in_use ≡ false → IsErrAnd r (λ d. d ≡ e)
    → RefusesSend (frame_or_refusal number_of wire size port number false t flags payload)
    (TakesMemory number_of wire size false payload) e → IfErr r
    (RefusesSend (frame_or_refusal number_of wire size own number in_use t flags payload)
    (TakesMemory number_of wire size in_use payload))
refused_request number_of wire size port own number in_use t flags payload r e same free is why =
    refused_passed (RefusesSend (frame_or_refusal number_of wire size own number in_use t flags payload)
    (TakesMemory number_of wire size in_use payload)) r e is
    (subst (λ (x : Bool). RefusesSend (frame_or_refusal number_of wire size own number x t flags payload)
    (TakesMemory number_of wire size x payload) e) (sym free)
    (subst (λ (p : ℕ). RefusesSend (frame_or_refusal number_of wire size p number false t flags payload)
    (TakesMemory number_of wire size false payload) e) same why))
