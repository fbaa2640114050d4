-- The sums of the walks over a dump.
use Rattle.std.specs.Prelude.{◌≡◌, ℕ, ◌+◌, ◌-◌, ◌^◌, List, [], bit_and, drop, length, min, sum_by, Option, Some, None}
use Rattle.neli_body.specs.Attributes.{AttributesRead, attrs_of}
use Rattle.neli_body.specs.Bodies.{body_of as header_then}
use Rattle.neli_consts_attrs.specs.Ifla.{ifla_number, ifla_of}
use Rattle.neli_consts_attrs.specs.Rta.{rta_number, rta_of}
use Rattle.neli_consts_attrs.specs.declared.links.Ifla.{Ifla}
use Rattle.neli_consts_attrs.specs.declared.routes.Rta.{Rta}
use Rattle.neli_lent.specs.Attributes.{attributes_at}
use Rattle.neli_lent.specs.Messages.{Lent, messages_in}
use Rattle.neli_reader.specs.Agreement.{untyped_layout}
use Rattle.neli_reader.specs.Cuts.{Cut, cut_of}
use Rattle.neli_reader.specs.Messages.{Message, message_layout}
use Rattle.neli_reader.specs.Retyping.{body_of}
use Rattle.neli_rtnl.specs.Ifinfomsg.{ifinfomsg_header}
use Rattle.neli_rtnl.specs.Rtmsg.{rtmsg_header}
use Rattle.neli_rtnl.specs.declared.ifinfomsg.IfinfomsgHeader.{IfinfomsgHeader}
use Rattle.neli_rtnl.specs.declared.rtmsg.RtmsgHeader.{RtmsgHeader}

-- a sum as the walks return it: the largest number of 64 bits stands for those above it
abbrev pub as_u64 : ℕ → ℕ
as_u64 n = min n (2 ^ 64 - 1)

-- the bytes have no fault, and this is the sum over their messages
abbrev pub IsSum : {A : Type 0} → (A → ℕ) → Cut A → ℕ → Type 0
IsSum adds cut total = (cut.1 ≡ None) × (total ≡ as_u64 (sum_by adds cut.0))

-- the share of an attribute: the number of its type, without the two upper bits, and the length of its payload
abbrev pub type_and_length : ℕ → List ℕ → ℕ
type_and_length number payload = bit_and number 16383 + length payload

-- the sum over attributes
abbrev pub attributes_add : {K : Type 0} → (K → ℕ) → AttributesRead K → ℕ
attributes_add number_of attributes = sum_by (λ a. type_and_length (number_of a.0.kind) a.1) attributes

-- ---- messages read into memory

-- a datagram of messages that are bytes
abbrev pub raw_cut : List ℕ → Cut (Message ℕ (List ℕ))
raw_cut = cut_of untyped_layout

-- a datagram of links
abbrev pub link_cut : List ℕ → Cut (Message ℕ (IfinfomsgHeader × AttributesRead Ifla))
link_cut = cut_of (message_layout (λ n. n) (λ n. n) (header_then 16 ifinfomsg_header (attrs_of ifla_of)))

-- a datagram of routes
abbrev pub route_cut : List ℕ → Cut (Message ℕ (RtmsgHeader × AttributesRead Rta))
route_cut = cut_of (message_layout (λ n. n) (λ n. n) (header_then 12 rtmsg_header (attrs_of rta_of)))

-- the length that a message states
abbrev pub stated_length : {V : Type 0} → Message ℕ V → ℕ
stated_length m = m.0.len

-- the sum over the attributes of a body, if there is one
abbrev pub body_adds : {H K : Type 0} → (K → ℕ) → Option (H × AttributesRead K) → ℕ
body_adds number_of None = 0
body_adds number_of (Some body) = attributes_add number_of body.1

-- the sum over the attributes of a link
abbrev pub link_adds : Message ℕ (IfinfomsgHeader × AttributesRead Ifla) → ℕ
link_adds m = body_adds ifla_number (body_of m.1)

-- the sum over the attributes of a route
abbrev pub route_adds : Message ℕ (RtmsgHeader × AttributesRead Rta) → ℕ
route_adds m = body_adds rta_number (body_of m.1)

-- ---- lent messages

-- a datagram of lent messages
abbrev pub lent_cut : List ℕ → Cut (Lent ℕ)
lent_cut = messages_in (λ n. n)

-- the length that a lent message states
abbrev pub lent_stated_length : Lent ℕ → ℕ
lent_stated_length m = m.0.len

-- the sum over the attributes after the first n bytes of its payload, up to their fault
abbrev pub lent_adds : ℕ → Lent ℕ → ℕ
lent_adds n m = attributes_add (λ k. k) (attributes_at (λ k. k) (record { before = []; rest = drop n m.1 })).0
