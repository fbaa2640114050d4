-- What is lent has the heading of the delivery.
use Rattle.std.specs.Prelude.{◌≡◌, ℕ, List, Option, Some, None, Ok, option_map}
use Rattle.std.proofs.Common.{ap, refl}
use Rattle.neli_wire.specs.laws.Reading.{bind_ok, ok_is}
use Rattle.neli_reader.specs.Framed.{Nlmsghdr}
use Rattle.neli_reader.specs.Headers.{Header}
use Rattle.neli_reader.specs.Kinds.{payload_in}
use Rattle.neli_reader.specs.NlPayload.{NlPayload}
use Rattle.neli_lent.specs.Messages.{Lent, message_view}
use Rattle.neli_deliveries.specs.Deliveries.{heading_of}
use Rattle.neli_deliveries.specs.declared.delivery.Delivery.{Delivery}
use Rattle.neli_deliveries.specs.declared.delivery.Delivery.TheVariants as delivery
use Rattle.neli_deliveries.specs.declared.delivery.Heading.{Heading}
use Rattle.neli_deliveries.specs.declared.delivery.Heading.TheVariants as heading
use Rattle.neli_log.specs.Lending.{IsFirstLent, IsLent, Lends, lent_heading}
use Rattle.neli_log.specs.declared.lending.LentDelivery.{LentDelivery}
use Rattle.neli_log.specs.declared.lending.LentDelivery.TheVariants as lent

-- a lent message has the header of the message that it is
pub header_lent : (m : Lent ℕ) (u : Nlmsghdr ℕ (List ℕ)) → Lends m u → m.0 ≡ u.header
header_lent m u is =
    let b = bind_ok (payload_in (λ n. n) (λ bytes. Ok bytes) m.0.message_type m.0.flags m.1) _ (u.header, u.payload) is in
    ap (λ (x : Header ℕ × NlPayload ℕ (List ℕ)). x.0) (ok_is (m.0, b.0) (u.header, u.payload) b.2)

-- so it has the delivery's heading
pub heading_lent : (d : Delivery) (l : LentDelivery) → IsLent d l → lent_heading l ≡ heading_of d
heading_lent (delivery.Message u) (lent.Message m) is =
    ap (λ (h : Header ℕ). heading.Message h.message_type h.flags) (header_lent (message_view m) u is)
heading_lent (delivery.Stray u) (lent.Stray m) is = refl
heading_lent (delivery.Fault e) (lent.Fault f) is = refl
heading_lent (delivery.Message u) (lent.Stray m) is = absurd is
heading_lent (delivery.Message u) (lent.Fault f) is = absurd is
heading_lent (delivery.Stray u) (lent.Message m) is = absurd is
heading_lent (delivery.Stray u) (lent.Fault f) is = absurd is
heading_lent (delivery.Fault e) (lent.Message m) is = absurd is
heading_lent (delivery.Fault e) (lent.Stray m) is = absurd is

-- the same of the first, where one waits
pub first_lent : (o : Option Delivery) (l : LentDelivery) → IsFirstLent o (Some l)
    → Some (lent_heading l) ≡ option_map heading_of o
first_lent None l is = cc
first_lent (Some d) l is = ap (λ (h : Heading). Some h) (heading_lent d l is)

-- or none does
pub none_lent : (o : Option Delivery) → IsFirstLent o None → None ≡ option_map heading_of o
none_lent None is = refl
none_lent (Some d) is = absurd is
