-- A link's statistics: `struct if_stats_msg` of linux/if_link.h, and attributes.
use Rattle.std.specs.Prelude.{ℕ, List, ◌++◌}
use Rattle.neli_wire.specs.Frames.{number_in}
use Rattle.neli_wire.specs.Numbers.{FitsBytes, little_bytes}
use Rattle.neli_body.specs.Headers.{IsNamed}
use Rattle.neli_consts_routing.specs.RtAddrFamily.{rt_addr_family_number, rt_addr_family_of}
use Rattle.neli_consts_linux.specs.declared.statistics.IflaStats.{IflaStats}
use Rattle.neli_rtnl.specs.declared.body.Body.{Body}
use Rattle.neli_rtnl_linux.specs.declared.if_stats_msg.IfStatsMsgHeader.{IfStatsMsgHeader}

-- the fields and the attributes
abbrev pub IfStatsMsg : Type 0
IfStatsMsg = Body IfStatsMsgHeader IflaStats

-- the fields by their places, before the attributes
abbrev pub if_stats_msg_header : List ℕ → IfStatsMsgHeader
if_stats_msg_header s = record {
  family = rt_addr_family_of (number_in 1 0 s);
  pad1 = number_in 1 1 s;
  pad2 = number_in 2 2 s;
  ifindex = number_in 4 4 s;
  filter_mask = number_in 4 8 s;
}

-- the bytes of the fields, before the attributes
abbrev pub if_stats_msg_bytes : IfStatsMsgHeader → List ℕ
if_stats_msg_bytes h =
    little_bytes 1 (rt_addr_family_number h.family) ++ little_bytes 1 h.pad1
    ++ little_bytes 2 h.pad2 ++ little_bytes 4 h.ifindex ++ little_bytes 4 h.filter_mask

-- each field has a number of its size, and is read from that number
pub record IsPlainIfStatsMsg (h : IfStatsMsgHeader) : Type 0 where
  pub family : IsNamed 1 rt_addr_family_number rt_addr_family_of h.family
  pub pad1 : FitsBytes 1 h.pad1
  pub pad2 : FitsBytes 2 h.pad2
  pub ifindex : FitsBytes 4 h.ifindex
  pub filter_mask : FitsBytes 4 h.filter_mask
