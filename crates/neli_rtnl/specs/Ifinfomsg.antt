-- Links: `struct ifinfomsg` of linux/rtnetlink.h, and the attributes of the link.
use Rattle.std.specs.Prelude.{ℕ, List, [], ◌++◌, codes, drop, unwrap_or, Ok, FitsSigned, ◌-◌, ◌^◌, Option, Some, pos}
use Rattle.std.specs.Int.{w32}
use Rattle.neli_wire.specs.Frames.{number_in}
use Rattle.neli_wire.specs.Numbers.{FitsBytes, little_bytes, signed_bytes, signed_number}
use Rattle.neli_attr.specs.Builders.{Outcome, require_field}
use Rattle.neli_body.specs.Headers.{IsNamed}
use Rattle.neli_consts_attrs.specs.declared.links.Ifla.{Ifla}
use Rattle.neli_consts_routing.specs.Arphrd.{arphrd_number, arphrd_of}
use Rattle.neli_consts_routing.specs.RtAddrFamily.{rt_addr_family_number, rt_addr_family_of}
use Rattle.std.specs.Int.RustNames.{bit_and, bit_or}
use Rattle.bitflags.specs.Sets.{known_bits}
use Rattle.neli_consts_flags.specs.Iff.{iff_names}
use Rattle.neli_consts_flags.specs.declared.set.FlagSet.{FlagSet}
use Rattle.neli_consts_routing.specs.declared.links.Arphrd.TheVariants.{Netrom}
use Rattle.neli_rtnl.specs.declared.body.Body.{Body}
use Rattle.neli_rtnl.specs.declared.ifinfomsg.IfinfomsgBuilder.{IfinfomsgBuilder}
use Rattle.neli_rtnl.specs.declared.ifinfomsg.IfinfomsgHeader.{IfinfomsgHeader}

-- a link: its fields and its attributes
abbrev pub Ifinfomsg : Type 0
Ifinfomsg = Body IfinfomsgHeader Ifla

-- the fields by their places, before the attributes
abbrev pub ifinfomsg_header : List ℕ → IfinfomsgHeader
ifinfomsg_header s = record {
  ifi_family = rt_addr_family_of (number_in 1 0 s);
  padding = number_in 1 1 s;
  ifi_type = arphrd_of (number_in 2 2 s);
  ifi_index = signed_number w32 4 (drop 4 s);
  ifi_flags = record { 0 = number_in 4 8 s };
  ifi_change = record { 0 = number_in 4 12 s };
}

-- the bytes of the fields, before the attributes
abbrev pub ifinfomsg_bytes : IfinfomsgHeader → List ℕ
ifinfomsg_bytes h =
    little_bytes 1 (rt_addr_family_number h.ifi_family) ++ little_bytes 1 h.padding
    ++ little_bytes 2 (arphrd_number h.ifi_type) ++ signed_bytes w32 4 h.ifi_index
    ++ little_bytes 4 h.ifi_flags.0 ++ little_bytes 4 h.ifi_change.0

-- each field has a number of its size, and is read from that number
pub record IsPlainIfinfomsg (h : IfinfomsgHeader) : Type 0 where
  pub ifi_family : IsNamed 1 rt_addr_family_number rt_addr_family_of h.ifi_family
  pub padding : FitsBytes 1 h.padding
  pub ifi_type : IsNamed 2 arphrd_number arphrd_of h.ifi_type
  pub ifi_index : FitsSigned w32 h.ifi_index
  pub ifi_flags : FitsBytes 4 h.ifi_flags.0
  pub ifi_change : FitsBytes 4 h.ifi_change.0

-- what a builder makes of its fields
abbrev pub ifinfomsg_built : IfinfomsgBuilder → Outcome Ifinfomsg
ifinfomsg_built b =
    require_field (codes "ifi_family") b.ifi_family (λ ifi_family.
    Ok (record {
      header = record {
        ifi_family = ifi_family;
        padding = 0;
        ifi_type = unwrap_or b.ifi_type Netrom;
        ifi_index = unwrap_or b.ifi_index (pos 0);
        ifi_flags = unwrap_or b.ifi_flags (record { 0 = 0 });
        ifi_change = unwrap_or b.ifi_change (record { 0 = 0 });
      };
      rtattrs = unwrap_or b.rtattrs [];
    }))

-- the flags of a builder; none by default
abbrev pub flags_or_none : Option (FlagSet ℕ 3) → ℕ
flags_or_none flags = (unwrap_or flags (record { 0 = 0 })).0

-- all bits with names except UP
abbrev pub named_but_up : ℕ
named_but_up = bit_and (2 ^ 32 - 1 - 1) (known_bits iff_names)

-- `up` sets UP in the flags and in those to be changed
abbrev pub ifinfomsg_up : IfinfomsgBuilder → IfinfomsgBuilder
ifinfomsg_up b = record b {
  ifi_flags = Some (record { 0 = bit_or (flags_or_none b.ifi_flags) 1 });
  ifi_change = Some (record { 0 = bit_or (flags_or_none b.ifi_change) 1 });
}

-- `down` clears UP and the bits without a name in the flags, and sets UP in those to be changed
abbrev pub ifinfomsg_down : IfinfomsgBuilder → IfinfomsgBuilder
ifinfomsg_down b = record b {
  ifi_flags = Some (record { 0 = bit_and (flags_or_none b.ifi_flags) named_but_up });
  ifi_change = Some (record { 0 = bit_or (flags_or_none b.ifi_change) 1 });
}
