-- Neighbours of links: `struct ndmsg` of linux/neighbour.h, and the attributes of the neighbour.
use Rattle.std.specs.Prelude.{ℕ, List, [], ◌++◌, codes, drop, unwrap_or, Ok, FitsSigned}
use Rattle.std.specs.Int.{w32}
use Rattle.neli_wire.specs.Frames.{number_in}
use Rattle.neli_wire.specs.Numbers.{FitsBytes, little_bytes, signed_bytes, signed_number}
use Rattle.neli_attr.specs.Builders.{Outcome, require_field}
use Rattle.neli_body.specs.Headers.{IsNamed}
use Rattle.neli_consts_attrs.specs.declared.neighbours.Nda.{Nda}
use Rattle.neli_consts_routing.specs.RtAddrFamily.{rt_addr_family_number, rt_addr_family_of}
use Rattle.neli_consts_routing.specs.Rtn.{rtn_number, rtn_of}
use Rattle.neli_rtnl.specs.declared.body.Body.{Body}
use Rattle.neli_rtnl.specs.declared.ndmsg.NdmsgBuilder.{NdmsgBuilder}
use Rattle.neli_rtnl.specs.declared.ndmsg.NdmsgHeader.{NdmsgHeader}

-- a neighbour: its fields and its attributes
abbrev pub Ndmsg : Type 0
Ndmsg = Body NdmsgHeader Nda

-- the fields by their places, before the attributes
abbrev pub ndmsg_header : List ℕ → NdmsgHeader
ndmsg_header s = record {
  ndm_family = rt_addr_family_of (number_in 1 0 s);
  pad1 = number_in 1 1 s;
  pad2 = number_in 2 2 s;
  ndm_index = signed_number w32 4 (drop 4 s);
  ndm_state = record { 0 = number_in 2 8 s };
  ndm_flags = record { 0 = number_in 1 10 s };
  ndm_type = rtn_of (number_in 1 11 s);
}

-- the bytes of the fields, before the attributes
abbrev pub ndmsg_bytes : NdmsgHeader → List ℕ
ndmsg_bytes h =
    little_bytes 1 (rt_addr_family_number h.ndm_family) ++ little_bytes 1 h.pad1
    ++ little_bytes 2 h.pad2 ++ signed_bytes w32 4 h.ndm_index ++ little_bytes 2 h.ndm_state.0
    ++ little_bytes 1 h.ndm_flags.0 ++ little_bytes 1 (rtn_number h.ndm_type)

-- each field has a number of its size, and is read from that number
pub record IsPlainNdmsg (h : NdmsgHeader) : Type 0 where
  pub ndm_family : IsNamed 1 rt_addr_family_number rt_addr_family_of h.ndm_family
  pub pad1 : FitsBytes 1 h.pad1
  pub pad2 : FitsBytes 2 h.pad2
  pub ndm_index : FitsSigned w32 h.ndm_index
  pub ndm_state : FitsBytes 2 h.ndm_state.0
  pub ndm_flags : FitsBytes 1 h.ndm_flags.0
  pub ndm_type : IsNamed 1 rtn_number rtn_of h.ndm_type

-- what a builder makes of its fields
abbrev pub ndmsg_built : NdmsgBuilder → Outcome Ndmsg
ndmsg_built b =
    require_field (codes "ndm_family") b.ndm_family (λ ndm_family.
    require_field (codes "ndm_index") b.ndm_index (λ ndm_index.
    require_field (codes "ndm_state") b.ndm_state (λ ndm_state.
    require_field (codes "ndm_type") b.ndm_type (λ ndm_type.
    Ok (record {
      header = record {
        ndm_family = ndm_family;
        pad1 = 0;
        pad2 = 0;
        ndm_index = ndm_index;
        ndm_state = ndm_state;
        ndm_flags = unwrap_or b.ndm_flags (record { 0 = 0 });
        ndm_type = ndm_type;
      };
      rtattrs = unwrap_or b.rtattrs [];
    })))))
