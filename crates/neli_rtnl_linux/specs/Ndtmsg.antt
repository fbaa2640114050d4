-- Neighbour tables: `struct ndtmsg` of linux/neighbour.h, and attributes.
use Rattle.std.specs.Prelude.{ℕ, List, ◌++◌}
use Rattle.neli_wire.specs.Frames.{number_in}
use Rattle.neli_wire.specs.Numbers.{FitsBytes, little_bytes}
use Rattle.neli_body.specs.Headers.{IsNamed}
use Rattle.neli_consts_routing.specs.RtAddrFamily.{rt_addr_family_number, rt_addr_family_of}
use Rattle.neli_consts_linux.specs.declared.neighbours.Ndta.{Ndta}
use Rattle.neli_rtnl.specs.declared.body.Body.{Body}
use Rattle.neli_rtnl_linux.specs.declared.ndtmsg.NdtmsgHeader.{NdtmsgHeader}

-- the fields and the attributes
abbrev pub Ndtmsg : Type 0
Ndtmsg = Body NdtmsgHeader Ndta

-- the fields by their places, before the attributes
abbrev pub ndtmsg_header : List ℕ → NdtmsgHeader
ndtmsg_header s = record {
  ndtm_family = rt_addr_family_of (number_in 1 0 s);
  pad1 = number_in 1 1 s;
  pad2 = number_in 2 2 s;
}

-- the bytes of the fields, before the attributes
abbrev pub ndtmsg_bytes : NdtmsgHeader → List ℕ
ndtmsg_bytes h =
    little_bytes 1 (rt_addr_family_number h.ndtm_family) ++ little_bytes 1 h.pad1
    ++ little_bytes 2 h.pad2

-- each field has a number of its size, and is read from that number
pub record IsPlainNdtmsg (h : NdtmsgHeader) : Type 0 where
  pub ndtm_family : IsNamed 1 rt_addr_family_number rt_addr_family_of h.ndtm_family
  pub pad1 : FitsBytes 1 h.pad1
  pub pad2 : FitsBytes 2 h.pad2
