-- Requests by family only: `struct rtgenmsg` of linux/rtnetlink.h with its three bytes of padding, and attributes.
use Rattle.std.specs.Prelude.{ℕ, List, [], ◌++◌, codes, unwrap_or, Ok}
use Rattle.neli_wire.specs.Frames.{number_in}
use Rattle.neli_wire.specs.Numbers.{FitsBytes, little_bytes}
use Rattle.neli_attr.specs.Builders.{Outcome, require_field}
use Rattle.neli_body.specs.Headers.{IsNamed}
use Rattle.neli_consts_attrs.specs.declared.addresses.Ifa.{Ifa}
use Rattle.neli_consts_routing.specs.RtAddrFamily.{rt_addr_family_number, rt_addr_family_of}
use Rattle.neli_rtnl.specs.declared.body.Body.{Body}
use Rattle.neli_rtnl.specs.declared.rtgenmsg.RtgenmsgBuilder.{RtgenmsgBuilder}
use Rattle.neli_rtnl.specs.declared.rtgenmsg.RtgenmsgHeader.{RtgenmsgHeader}

-- a request by family: its fields and its attributes
abbrev pub Rtgenmsg : Type 0
Rtgenmsg = Body RtgenmsgHeader Ifa

-- the fields by their places, before the attributes
abbrev pub rtgenmsg_header : List ℕ → RtgenmsgHeader
rtgenmsg_header s = record {
  rtgen_family = rt_addr_family_of (number_in 1 0 s);
  pad1 = number_in 1 1 s;
  pad2 = number_in 2 2 s;
}

-- the bytes of the fields, before the attributes
abbrev pub rtgenmsg_bytes : RtgenmsgHeader → List ℕ
rtgenmsg_bytes h =
    little_bytes 1 (rt_addr_family_number h.rtgen_family) ++ little_bytes 1 h.pad1
    ++ little_bytes 2 h.pad2

-- each field has a number of its size, and is read from that number
pub record IsPlainRtgenmsg (h : RtgenmsgHeader) : Type 0 where
  pub rtgen_family : IsNamed 1 rt_addr_family_number rt_addr_family_of h.rtgen_family
  pub pad1 : FitsBytes 1 h.pad1
  pub pad2 : FitsBytes 2 h.pad2

-- what a builder makes of its fields
abbrev pub rtgenmsg_built : RtgenmsgBuilder → Outcome Rtgenmsg
rtgenmsg_built b =
    require_field (codes "rtgen_family") b.rtgen_family (λ rtgen_family.
    Ok (record {
      header = record {
        rtgen_family = rtgen_family;
        pad1 = 0;
        pad2 = 0;
      };
      rtattrs = unwrap_or b.rtattrs [];
    }))
