-- Addresses of links: `struct ifaddrmsg` of linux/if_addr.h, and the attributes of the address.
use Rattle.std.specs.Prelude.{ℕ, List, [], ◌++◌, codes, unwrap_or, Ok}
use Rattle.neli_wire.specs.Frames.{number_in}
use Rattle.neli_wire.specs.Numbers.{FitsBytes, little_bytes}
use Rattle.neli_attr.specs.Builders.{Outcome, require_field}
use Rattle.neli_body.specs.Headers.{IsNamed}
use Rattle.neli_consts_attrs.specs.declared.addresses.Ifa.{Ifa}
use Rattle.neli_consts_routing.specs.RtAddrFamily.{rt_addr_family_number, rt_addr_family_of}
use Rattle.neli_consts_routing.specs.RtScope.{rt_scope_number, rt_scope_of}
use Rattle.neli_rtnl.specs.declared.body.Body.{Body}
use Rattle.neli_rtnl.specs.declared.ifaddrmsg.IfaddrmsgBuilder.{IfaddrmsgBuilder}
use Rattle.neli_rtnl.specs.declared.ifaddrmsg.IfaddrmsgHeader.{IfaddrmsgHeader}

-- an address: its fields and its attributes
abbrev pub Ifaddrmsg : Type 0
Ifaddrmsg = Body IfaddrmsgHeader Ifa

-- the fields by their places, before the attributes
abbrev pub ifaddrmsg_header : List ℕ → IfaddrmsgHeader
ifaddrmsg_header s = record {
  ifa_family = rt_addr_family_of (number_in 1 0 s);
  ifa_prefixlen = number_in 1 1 s;
  ifa_flags = record { 0 = number_in 1 2 s };
  ifa_scope = rt_scope_of (number_in 1 3 s);
  ifa_index = number_in 4 4 s;
}

-- the bytes of the fields, before the attributes
abbrev pub ifaddrmsg_bytes : IfaddrmsgHeader → List ℕ
ifaddrmsg_bytes h =
    little_bytes 1 (rt_addr_family_number h.ifa_family) ++ little_bytes 1 h.ifa_prefixlen
    ++ little_bytes 1 h.ifa_flags.0 ++ little_bytes 1 (rt_scope_number h.ifa_scope)
    ++ little_bytes 4 h.ifa_index

-- each field has a number of its size, and is read from that number
pub record IsPlainIfaddrmsg (h : IfaddrmsgHeader) : Type 0 where
  pub ifa_family : IsNamed 1 rt_addr_family_number rt_addr_family_of h.ifa_family
  pub ifa_prefixlen : FitsBytes 1 h.ifa_prefixlen
  pub ifa_flags : FitsBytes 1 h.ifa_flags.0
  pub ifa_scope : IsNamed 1 rt_scope_number rt_scope_of h.ifa_scope
  pub ifa_index : FitsBytes 4 h.ifa_index

-- what a builder makes of its fields
abbrev pub ifaddrmsg_built : IfaddrmsgBuilder → Outcome Ifaddrmsg
ifaddrmsg_built b =
    require_field (codes "ifa_family") b.ifa_family (λ ifa_family.
    require_field (codes "ifa_prefixlen") b.ifa_prefixlen (λ ifa_prefixlen.
    require_field (codes "ifa_scope") b.ifa_scope (λ ifa_scope.
    require_field (codes "ifa_index") b.ifa_index (λ ifa_index.
    Ok (record {
      header = record {
        ifa_family = ifa_family;
        ifa_prefixlen = ifa_prefixlen;
        ifa_flags = unwrap_or b.ifa_flags (record { 0 = 0 });
        ifa_scope = ifa_scope;
        ifa_index = ifa_index;
      };
      rtattrs = unwrap_or b.rtattrs [];
    })))))
