-- Queueing disciplines: `struct tcmsg` of linux/rtnetlink.h, and the attributes.
use Rattle.std.specs.Prelude.{ℕ, List, [], ◌++◌, codes, drop, unwrap_or, Ok, FitsSigned}
use Rattle.std.specs.Int.{w32}
use Rattle.neli_wire.specs.Frames.{number_in}
use Rattle.neli_wire.specs.Numbers.{FitsBytes, little_bytes, signed_bytes, signed_number}
use Rattle.neli_attr.specs.Builders.{Outcome, require_field}
use Rattle.neli_consts_attrs.specs.declared.queues.Tca.{Tca}
use Rattle.neli_rtnl.specs.declared.body.Body.{Body}
use Rattle.neli_rtnl.specs.declared.tcmsg.TcmsgBuilder.{TcmsgBuilder}
use Rattle.neli_rtnl.specs.declared.tcmsg.TcmsgHeader.{TcmsgHeader}

-- a queueing discipline: its fields and its attributes
abbrev pub Tcmsg : Type 0
Tcmsg = Body TcmsgHeader Tca

-- the fields by their places, before the attributes
abbrev pub tcmsg_header : List ℕ → TcmsgHeader
tcmsg_header s = record {
  tcm_family = number_in 1 0 s;
  padding_char = number_in 1 1 s;
  padding_short = number_in 2 2 s;
  tcm_ifindex = signed_number w32 4 (drop 4 s);
  tcm_handle = number_in 4 8 s;
  tcm_parent = number_in 4 12 s;
  tcm_info = number_in 4 16 s;
}

-- the bytes of the fields, before the attributes
abbrev pub tcmsg_bytes : TcmsgHeader → List ℕ
tcmsg_bytes h =
    little_bytes 1 h.tcm_family ++ little_bytes 1 h.padding_char ++ little_bytes 2 h.padding_short
    ++ signed_bytes w32 4 h.tcm_ifindex ++ little_bytes 4 h.tcm_handle
    ++ little_bytes 4 h.tcm_parent ++ little_bytes 4 h.tcm_info

-- each field has a number of its size, and is read from that number
pub record IsPlainTcmsg (h : TcmsgHeader) : Type 0 where
  pub tcm_family : FitsBytes 1 h.tcm_family
  pub padding_char : FitsBytes 1 h.padding_char
  pub padding_short : FitsBytes 2 h.padding_short
  pub tcm_ifindex : FitsSigned w32 h.tcm_ifindex
  pub tcm_handle : FitsBytes 4 h.tcm_handle
  pub tcm_parent : FitsBytes 4 h.tcm_parent
  pub tcm_info : FitsBytes 4 h.tcm_info

-- what a builder makes of its fields
abbrev pub tcmsg_built : TcmsgBuilder → Outcome Tcmsg
tcmsg_built b =
    require_field (codes "tcm_family") b.tcm_family (λ tcm_family.
    require_field (codes "tcm_ifindex") b.tcm_ifindex (λ tcm_ifindex.
    require_field (codes "tcm_handle") b.tcm_handle (λ tcm_handle.
    require_field (codes "tcm_parent") b.tcm_parent (λ tcm_parent.
    require_field (codes "tcm_info") b.tcm_info (λ tcm_info.
    Ok (record {
      header = record {
        tcm_family = tcm_family;
        padding_char = 0;
        padding_short = 0;
        tcm_ifindex = tcm_ifindex;
        tcm_handle = tcm_handle;
        tcm_parent = tcm_parent;
        tcm_info = tcm_info;
      };
      rtattrs = unwrap_or b.rtattrs [];
    }))))))
