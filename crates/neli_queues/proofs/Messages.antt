-- A message as stored, and where it goes.
use Rattle.std.proofs.Common.{◌≡◌, ◌∷◌, [], ℕ, Bool, false, List, refl, ap}
use Rattle.neli_reader.specs.Messages.{message_from, message_of}
use Rattle.neli_reader.specs.Framed.{Nlmsghdr}
use Rattle.neli_reader.specs.NlPayload.{NlPayload}
use Rattle.neli_reader.specs.NlPayload.TheVariants as payload
use Rattle.neli_reader.specs.Kinds.{payload_view}
use Rattle.neli_deliveries.specs.declared.delivery.Delivery.TheVariants as delivery
use Rattle.neli_deliveries.specs.Deliveries.{is_reply, message_to}

payload_view-same : (p : NlPayload ℕ (List ℕ)) → payload_view (λ b. b) p ≡ p
payload_view-same (payload.Payload b) = refl
payload_view-same (payload.Err e) = refl
payload_view-same (payload.Ack e) = refl
payload_view-same (payload.Capped e) = refl
payload_view-same (payload.DumpExtAck e) = refl
payload_view-same payload.Empty = refl

-- a message equals its view
pub message_from_same : (m : Nlmsghdr ℕ (List ℕ)) → message_from (message_of (λ b. b) m) ≡ m
message_from_same m = ap (λ (p : NlPayload ℕ (List ℕ)). message_from (m.header, p)) (payload_view-same m.payload)

-- a message that is no reply goes to each number
pub message_to_stray : (port : ℕ) (is_open : ℕ → Bool) (q : ℕ) (m : Nlmsghdr ℕ (List ℕ))
    → is_reply port is_open (message_of (λ b. b) m) ≡ false
    → message_to port is_open q (message_of (λ b. b) m) ≡ delivery.Stray m ∷ []
message_to_stray port is_open q m other = rw (other, message_from_same m) refl
