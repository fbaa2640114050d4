-- Rules of routing: `struct fib_rule_hdr` of linux/fib_rules.h, and the attributes of the rule.
use Rattle.std.specs.Prelude.{ℕ, List, [], ◌++◌, codes, unwrap_or, Ok}
use Rattle.neli_wire.specs.Frames.{number_in}
use Rattle.neli_wire.specs.Numbers.{FitsBytes, little_bytes}
use Rattle.neli_attr.specs.Builders.{Outcome, require_field}
use Rattle.neli_body.specs.Headers.{IsNamed}
use Rattle.neli_consts_attrs.specs.declared.rules.Frattr.{Frattr}
use Rattle.neli_consts_routing.specs.FrAct.{fr_act_number, fr_act_of}
use Rattle.neli_consts_routing.specs.RtAddrFamily.{rt_addr_family_number, rt_addr_family_of}
use Rattle.neli_consts_routing.specs.RtTable.{rt_table_number, rt_table_of}
use Rattle.neli_rtnl.specs.declared.body.Body.{Body}
use Rattle.neli_rtnl.specs.declared.fibmsg.FibmsgBuilder.{FibmsgBuilder}
use Rattle.neli_rtnl.specs.declared.fibmsg.FibmsgHeader.{FibmsgHeader}

-- a rule: its fields and its attributes
abbrev pub Fibmsg : Type 0
Fibmsg = Body FibmsgHeader Frattr

-- the fields by their places, before the attributes
abbrev pub fibmsg_header : List ℕ → FibmsgHeader
fibmsg_header s = record {
  fib_family = rt_addr_family_of (number_in 1 0 s);
  fib_dst_len = number_in 1 1 s;
  fib_src_len = number_in 1 2 s;
  fib_tos = number_in 1 3 s;
  fib_table = rt_table_of (number_in 1 4 s);
  pad1 = number_in 1 5 s;
  pad2 = number_in 1 6 s;
  fib_action = fr_act_of (number_in 1 7 s);
  fib_flags = record { 0 = number_in 4 8 s };
}

-- the bytes of the fields, before the attributes
abbrev pub fibmsg_bytes : FibmsgHeader → List ℕ
fibmsg_bytes h =
    little_bytes 1 (rt_addr_family_number h.fib_family) ++ little_bytes 1 h.fib_dst_len
    ++ little_bytes 1 h.fib_src_len ++ little_bytes 1 h.fib_tos
    ++ little_bytes 1 (rt_table_number h.fib_table) ++ little_bytes 1 h.pad1
    ++ little_bytes 1 h.pad2 ++ little_bytes 1 (fr_act_number h.fib_action)
    ++ little_bytes 4 h.fib_flags.0

-- each field has a number of its size, and is read from that number
pub record IsPlainFibmsg (h : FibmsgHeader) : Type 0 where
  pub fib_family : IsNamed 1 rt_addr_family_number rt_addr_family_of h.fib_family
  pub fib_dst_len : FitsBytes 1 h.fib_dst_len
  pub fib_src_len : FitsBytes 1 h.fib_src_len
  pub fib_tos : FitsBytes 1 h.fib_tos
  pub fib_table : IsNamed 1 rt_table_number rt_table_of h.fib_table
  pub pad1 : FitsBytes 1 h.pad1
  pub pad2 : FitsBytes 1 h.pad2
  pub fib_action : IsNamed 1 fr_act_number fr_act_of h.fib_action
  pub fib_flags : FitsBytes 4 h.fib_flags.0

-- what a builder makes of its fields
abbrev pub fibmsg_built : FibmsgBuilder → Outcome Fibmsg
fibmsg_built b =
    require_field (codes "fib_family") b.fib_family (λ fib_family.
    require_field (codes "fib_dst_len") b.fib_dst_len (λ fib_dst_len.
    require_field (codes "fib_src_len") b.fib_src_len (λ fib_src_len.
    require_field (codes "fib_tos") b.fib_tos (λ fib_tos.
    require_field (codes "fib_table") b.fib_table (λ fib_table.
    require_field (codes "fib_action") b.fib_action (λ fib_action.
    Ok (record {
      header = record {
        fib_family = fib_family;
        fib_dst_len = fib_dst_len;
        fib_src_len = fib_src_len;
        fib_tos = fib_tos;
        fib_table = fib_table;
        pad1 = 0;
        pad2 = 0;
        fib_action = fib_action;
        fib_flags = unwrap_or b.fib_flags (record { 0 = 0 });
      };
      rtattrs = unwrap_or b.rtattrs [];
    })))))))
