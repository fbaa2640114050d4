-- How contracts see a message of generic netlink.
use Rattle.std.specs.Prelude.{map}
use Rattle.neli_attr.specs.Nlattr.{nlattr_view}
use Rattle.neli_genl.specs.Genlmsghdr.{GenlFields, AttributesRead}
use Rattle.neli_genl.specs.declared.genlmsghdr.Genlmsghdr.{Genlmsghdr}

-- a message's fields, by the view of its family's header
abbrev pub says : {C T H V : Type 0} → (H → V) → Genlmsghdr C T H → GenlFields C V (AttributesRead T)
says view m = record {
  cmd = m.cmd;
  version = m.version;
  reserved = m.reserved;
  header = view m.header;
  attrs = map nlattr_view m.attrs;
}
