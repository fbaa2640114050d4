-- Next hops: `struct rtnexthop` of linux/rtnetlink.h, each with its attributes.
use Rattle.std.specs.Prelude.{ℕ, ℤ, List, drop, length, option_map, Ok}
use Rattle.std.specs.Int.{w32}
use Rattle.neli_wire.specs.Frames.{Layout, number_in}
use Rattle.neli_wire.specs.Numbers.{signed_number}
use Rattle.neli_wire.specs.Place.{Place, whole}
use Rattle.neli_wire.specs.Reading.{refusal_within}
use Rattle.neli_reader.specs.Cuts.{Cut, cut_of}
use Rattle.neli_payloads.specs.declared.next_hops.NextHop.{NextHop}

-- the fields before the attributes
pub record HopHead : Type 0 where
  pub len : ℕ
  pub flags : ℕ
  pub hops : ℕ
  pub ifindex : ℤ

-- how next hops lie in bytes: the length at place 0, the flags at 2, the hops at 3, the link at 4, the attributes at 8
abbrev pub next_hop : Layout HopHead (List ℕ)
next_hop = record {
  size = 8;
  header_of = λ s. record {
    len = number_in 2 0 s;
    flags = number_in 1 2 s;
    hops = number_in 1 3 s;
    ifindex = signed_number w32 4 (drop 4 s);
  };
  length_of = λ head. head.len;
  payload_of = λ _ bytes. Ok bytes;
}

-- a next hop as read: its fields, and the bytes of its attributes
abbrev pub next_hop_view : NextHop → HopHead × List ℕ
next_hop_view h = (record { len = h.len; flags = h.flags; hops = h.hops; ifindex = h.ifindex }, h.attributes.now)

-- the rest at a place: the next hops, and the fault after them
unfoldable pub next_hops_at : Place → Cut (HopHead × List ℕ)
next_hops_at place =
    let cut = cut_of next_hop place.rest in
    (cut.0, option_map (refusal_within (length (whole place))) cut.1)
