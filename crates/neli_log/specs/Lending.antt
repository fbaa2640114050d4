-- Lent deliveries: what is lent is the delivery that waits.
use Rattle.std.specs.Prelude.{◌≡◌, ℕ, List, Option, Some, None, Ok}
use Rattle.neli_reader.specs.Framed.{Nlmsghdr}
use Rattle.neli_lent.specs.Messages.{Lent, as_owned, message_view}
use Rattle.neli_deliveries.specs.declared.delivery.Delivery.{Delivery}
use Rattle.neli_deliveries.specs.declared.delivery.Delivery.TheVariants as delivery
use Rattle.neli_deliveries.specs.declared.delivery.Heading.{Heading}
use Rattle.neli_deliveries.specs.declared.delivery.Heading.TheVariants as heading
use Rattle.neli_log.specs.declared.lending.LentDelivery.{LentDelivery}
use Rattle.neli_log.specs.declared.lending.LentDelivery.TheVariants as lent

-- the lent message is this one: as an owned message, read untyped, it has the same header and the same payload
abbrev pub Lends : Lent ℕ → Nlmsghdr ℕ (List ℕ) → Type 0
Lends m u = as_owned (λ n. n) (λ n. n) (λ bytes. Ok bytes) m ≡ Ok (u.header, u.payload)

-- what is lent is this delivery
abbrev pub IsLent : Delivery → LentDelivery → Type 0
IsLent (delivery.Message u) (lent.Message m) = Lends (message_view m) u
IsLent (delivery.Stray u) (lent.Stray m) = Lends (message_view m) u
IsLent (delivery.Fault e) (lent.Fault f) = f.now ≡ e
IsLent d l = ⊥

-- what is lent is the first delivery that waits; nothing if none waits
abbrev pub IsFirstLent : Option Delivery → Option LentDelivery → Type 0
IsFirstLent None l = l ≡ None
IsFirstLent (Some d) None = ⊥
IsFirstLent (Some d) (Some l) = IsLent d l

-- what is lent, by its message's header
abbrev pub lent_heading : LentDelivery → Heading
lent_heading (lent.Message m) = heading.Message m.header.message_type m.header.flags
lent_heading l = heading.Other
