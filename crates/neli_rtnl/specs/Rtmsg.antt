-- Routes: `struct rtmsg` of linux/rtnetlink.h, and the attributes of the route.
use Rattle.std.specs.Prelude.{ℕ, List, [], ◌++◌, codes, unwrap_or, Ok}
use Rattle.neli_wire.specs.Frames.{number_in}
use Rattle.neli_wire.specs.Numbers.{FitsBytes, little_bytes}
use Rattle.neli_attr.specs.Builders.{Outcome, require_field}
use Rattle.neli_body.specs.Headers.{IsNamed}
use Rattle.neli_consts_attrs.specs.declared.routes.Rta.{Rta}
use Rattle.neli_consts_routing.specs.RtAddrFamily.{rt_addr_family_number, rt_addr_family_of}
use Rattle.neli_consts_routing.specs.RtScope.{rt_scope_number, rt_scope_of}
use Rattle.neli_consts_routing.specs.RtTable.{rt_table_number, rt_table_of}
use Rattle.neli_consts_routing.specs.Rtn.{rtn_number, rtn_of}
use Rattle.neli_consts_routing.specs.Rtprot.{rtprot_number, rtprot_of}
use Rattle.neli_rtnl.specs.declared.body.Body.{Body}
use Rattle.neli_rtnl.specs.declared.rtmsg.RtmsgBuilder.{RtmsgBuilder}
use Rattle.neli_rtnl.specs.declared.rtmsg.RtmsgHeader.{RtmsgHeader}

-- a route: its fields and its attributes
abbrev pub Rtmsg : Type 0
Rtmsg = Body RtmsgHeader Rta

-- the fields by their places, before the attributes
abbrev pub rtmsg_header : List ℕ → RtmsgHeader
rtmsg_header s = record {
  rtm_family = rt_addr_family_of (number_in 1 0 s);
  rtm_dst_len = number_in 1 1 s;
  rtm_src_len = number_in 1 2 s;
  rtm_tos = number_in 1 3 s;
  rtm_table = rt_table_of (number_in 1 4 s);
  rtm_protocol = rtprot_of (number_in 1 5 s);
  rtm_scope = rt_scope_of (number_in 1 6 s);
  rtm_type = rtn_of (number_in 1 7 s);
  rtm_flags = record { 0 = number_in 4 8 s };
}

-- the bytes of the fields, before the attributes
abbrev pub rtmsg_bytes : RtmsgHeader → List ℕ
rtmsg_bytes h =
    little_bytes 1 (rt_addr_family_number h.rtm_family) ++ little_bytes 1 h.rtm_dst_len
    ++ little_bytes 1 h.rtm_src_len ++ little_bytes 1 h.rtm_tos
    ++ little_bytes 1 (rt_table_number h.rtm_table)
    ++ little_bytes 1 (rtprot_number h.rtm_protocol)
    ++ little_bytes 1 (rt_scope_number h.rtm_scope) ++ little_bytes 1 (rtn_number h.rtm_type)
    ++ little_bytes 4 h.rtm_flags.0

-- each field has a number of its size, and is read from that number
pub record IsPlainRtmsg (h : RtmsgHeader) : Type 0 where
  pub rtm_family : IsNamed 1 rt_addr_family_number rt_addr_family_of h.rtm_family
  pub rtm_dst_len : FitsBytes 1 h.rtm_dst_len
  pub rtm_src_len : FitsBytes 1 h.rtm_src_len
  pub rtm_tos : FitsBytes 1 h.rtm_tos
  pub rtm_table : IsNamed 1 rt_table_number rt_table_of h.rtm_table
  pub rtm_protocol : IsNamed 1 rtprot_number rtprot_of h.rtm_protocol
  pub rtm_scope : IsNamed 1 rt_scope_number rt_scope_of h.rtm_scope
  pub rtm_type : IsNamed 1 rtn_number rtn_of h.rtm_type
  pub rtm_flags : FitsBytes 4 h.rtm_flags.0

-- what a builder makes of its fields
abbrev pub rtmsg_built : RtmsgBuilder → Outcome Rtmsg
rtmsg_built b =
    require_field (codes "rtm_family") b.rtm_family (λ rtm_family.
    require_field (codes "rtm_dst_len") b.rtm_dst_len (λ rtm_dst_len.
    require_field (codes "rtm_src_len") b.rtm_src_len (λ rtm_src_len.
    require_field (codes "rtm_tos") b.rtm_tos (λ rtm_tos.
    require_field (codes "rtm_table") b.rtm_table (λ rtm_table.
    require_field (codes "rtm_protocol") b.rtm_protocol (λ rtm_protocol.
    require_field (codes "rtm_scope") b.rtm_scope (λ rtm_scope.
    require_field (codes "rtm_type") b.rtm_type (λ rtm_type.
    Ok (record {
      header = record {
        rtm_family = rtm_family;
        rtm_dst_len = rtm_dst_len;
        rtm_src_len = rtm_src_len;
        rtm_tos = rtm_tos;
        rtm_table = rtm_table;
        rtm_protocol = rtm_protocol;
        rtm_scope = rtm_scope;
        rtm_type = rtm_type;
        rtm_flags = unwrap_or b.rtm_flags (record { 0 = 0 });
      };
      rtattrs = unwrap_or b.rtattrs [];
    })))))))))
