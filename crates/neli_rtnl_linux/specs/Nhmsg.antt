-- Next hops: `struct nhmsg` of linux/nexthop.h, and the attributes.
use Rattle.std.specs.Prelude.{ℕ, List, ◌++◌}
use Rattle.neli_wire.specs.Frames.{number_in}
use Rattle.neli_wire.specs.Numbers.{FitsBytes, little_bytes}
use Rattle.neli_body.specs.Headers.{IsNamed}
use Rattle.neli_consts_routing.specs.RtAddrFamily.{rt_addr_family_number, rt_addr_family_of}
use Rattle.neli_consts_routing.specs.RtScope.{rt_scope_number, rt_scope_of}
use Rattle.neli_consts_routing.specs.Rtprot.{rtprot_number, rtprot_of}
use Rattle.neli_consts_linux.specs.declared.next_hops.Nha.{Nha}
use Rattle.neli_rtnl.specs.declared.body.Body.{Body}
use Rattle.neli_rtnl_linux.specs.declared.nhmsg.NhmsgHeader.{NhmsgHeader}

-- the fields and the attributes
abbrev pub Nhmsg : Type 0
Nhmsg = Body NhmsgHeader Nha

-- the fields by their places, before the attributes
abbrev pub nhmsg_header : List ℕ → NhmsgHeader
nhmsg_header s = record {
  nh_family = rt_addr_family_of (number_in 1 0 s);
  nh_scope = rt_scope_of (number_in 1 1 s);
  nh_protocol = rtprot_of (number_in 1 2 s);
  resvd = number_in 1 3 s;
  nh_flags = number_in 4 4 s;
}

-- the bytes of the fields, before the attributes
abbrev pub nhmsg_bytes : NhmsgHeader → List ℕ
nhmsg_bytes h =
    little_bytes 1 (rt_addr_family_number h.nh_family)
    ++ little_bytes 1 (rt_scope_number h.nh_scope) ++ little_bytes 1 (rtprot_number h.nh_protocol)
    ++ little_bytes 1 h.resvd ++ little_bytes 4 h.nh_flags

-- each field has a number of its size, and is read from that number
pub record IsPlainNhmsg (h : NhmsgHeader) : Type 0 where
  pub nh_family : IsNamed 1 rt_addr_family_number rt_addr_family_of h.nh_family
  pub nh_scope : IsNamed 1 rt_scope_number rt_scope_of h.nh_scope
  pub nh_protocol : IsNamed 1 rtprot_number rtprot_of h.nh_protocol
  pub resvd : FitsBytes 1 h.resvd
  pub nh_flags : FitsBytes 4 h.nh_flags
