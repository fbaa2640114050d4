-- What is written of a message of generic netlink is read again as its equal.
use Rattle.std.specs.Prelude.{◌≡◌, ℕ, ◌+◌, ◌%◌, ◌^◌, ◌<◌, List, [], ◌++◌, length, Ok}
use Rattle.std.specs.List.{All}
use Rattle.neli_attr.specs.Attributes.{attributes_in}
use Rattle.neli_attr.specs.TypeField.{type_of}
use Rattle.neli_attr.specs.declared.nlattr.Nlattr.{Nlattr}
use Rattle.neli_body.specs.Headers.{IsNamed}
use Rattle.neli_genl.specs.Genlmsghdr.{Attrs, GenlFields, AttributesRead, attrs_wire, genlmsghdr_bytes, genlmsghdr_of}
use Rattle.neli_genl.specs.Genlmsghdr.{genlmsghdr_wire}
use Rattle.neli_genl.specs.View.{says}
use Rattle.neli_genl.specs.declared.genlmsghdr.Genlmsghdr.{Genlmsghdr}
use Rattle.neli_wire.specs.Bytes.{Reading}
use Rattle.neli_wire.specs.Numbers.{FitsBytes}
use Rattle.neli_wire.specs.Writing.{Wire}

-- the family's header has a multiple of four bytes, the command is read from its number, and the others fit their
-- fields
pub record IsPlainGenlmsghdr {C T H : Type 0} (width : ℕ) (cmd_number : C → ℕ) (cmd_of : ℕ
    → C) (m : Genlmsghdr C T H) : Type 0 where
  pub aligned : width % 4 ≡ 0
  pub cmd : IsNamed 1 cmd_number cmd_of m.cmd
  pub version : FitsBytes 1 m.version
  pub reserved : FitsBytes 2 m.reserved

-- the fields of a message, with its family's header and its attributes as read
abbrev pub fields_with : {C T H V : Type 0} → Genlmsghdr C T H → V → AttributesRead T
    → GenlFields C V (AttributesRead T)
fields_with m header attrs =
    record { cmd = m.cmd; version = m.version; reserved = m.reserved; header = header; attrs = attrs }

-- a message has bytes, which are read as its fields, and those of its family's header and of its attributes as they are
-- read alone
abbrev pub GenlReadsBack : {C T H V : Type 0} → ℕ → (C → ℕ) → (ℕ → C) → (T → ℕ) → (ℕ → T) → (H → Wire)
    → (List ℕ → Reading V) → Genlmsghdr C T H → Type 0
GenlReadsBack {T = T} {V = V} width cmd_number cmd_of type_number value_of header_wire header_at m =
    (header attrs : List ℕ) (value : V) (list : AttributesRead T)
    → header_wire m.header ≡ Ok header → header_at header ≡ Ok (value, [])
    → attrs_wire type_number m.attrs ≡ Ok attrs → attributes_in (type_of value_of) attrs ≡ Ok list
    → let bytes = genlmsghdr_bytes (cmd_number m.cmd) m.version m.reserved ++ header ++ attrs in
    (genlmsghdr_wire cmd_number type_number header_wire m ≡ Ok bytes)
    × (genlmsghdr_of width cmd_of value_of header_at bytes ≡ Ok (fields_with m value list))

-- ---- with the attributes

-- the length is that of the header and the payload, and the type is read from its number of 14 bits
pub record IsPlainNlattr {T : Type 0} (type_number : T → ℕ) (value_of : ℕ → T) (a : Nlattr T (List ℕ)) : Type 0 where
  pub len : a.nla_len ≡ 4 + length a.nla_payload
  pub fits : FitsBytes 2 a.nla_len
  pub kind : type_number a.nla_type.nla_type < 2 ^ 14
  pub named : value_of (type_number a.nla_type.nla_type) ≡ a.nla_type.nla_type

-- each attribute of a list is plain
abbrev pub ArePlainNlattrs : {T : Type 0} → (T → ℕ) → (ℕ → T) → Attrs T → Type 0
ArePlainNlattrs type_number value_of = All (IsPlainNlattr type_number value_of)

-- if the family's header is read back from its own bytes, the message has bytes, which are read as the same message
abbrev pub GenlReadsBackWhole : {C T H V : Type 0} → ℕ → (C → ℕ) → (ℕ → C) → (T → ℕ) → (ℕ → T) → (H → Wire)
    → (List ℕ → Reading V) → (H → V) → Genlmsghdr C T H → Type 0
GenlReadsBackWhole width cmd_number cmd_of type_number value_of header_wire header_at view m =
    (header : List ℕ) → header_wire m.header ≡ Ok header → header_at header ≡ Ok (view m.header, [])
    → (bytes : List ℕ) × (genlmsghdr_wire cmd_number type_number header_wire m ≡ Ok bytes)
    × (genlmsghdr_of width cmd_of value_of header_at bytes ≡ Ok (says view m))
