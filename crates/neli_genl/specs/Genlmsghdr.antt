-- Messages of generic netlink: `struct genlmsghdr` of linux/genetlink.h, a family's own header, and the attributes.
use Rattle.std.specs.Prelude.{◌≡◌, ℕ, ◌+◌, ◌%◌, ◌<◌, ◌≤◌, ◌⊎◌, List, [], ◌++◌, codes, drop, length, nat_eq, nat_lt, not}
use Rattle.std.specs.Prelude.{sum_by, unwrap_or, Result, Ok, Err, if◌then◌else◌}
use Rattle.neli_attr.specs.AttrType.{AttrType}
use Rattle.neli_attr.specs.Attributes.{Attr, attributes_in}
use Rattle.neli_attr.specs.Builders.{Outcome, require_field}
use Rattle.neli_attr.specs.Builders.Fault.{Invalid}
use Rattle.neli_attr.specs.Nlattr.{nlattr_wire}
use Rattle.neli_attr.specs.TypeField.{type_of}
use Rattle.neli_wire.specs.Sizes.{align}
use Rattle.neli_attr.specs.declared.nlattr.Nlattr.{Nlattr}
use Rattle.neli_genl.specs.declared.genlmsghdr.Genlmsghdr.{Genlmsghdr}
use Rattle.neli_genl.specs.declared.genlmsghdr.GenlmsghdrBuilder.{GenlmsghdrBuilder}
use Rattle.neli_wire.specs.Bytes.{Reading}
use Rattle.neli_wire.specs.declared.errors.DeError.{DeError}
use Rattle.neli_wire.specs.declared.errors.DeError.TheVariants.{InvalidInput}
use Rattle.neli_wire.specs.Frames.{number_in}
use Rattle.neli_wire.specs.Numbers.{little_bytes}
use Rattle.neli_wire.specs.Reading.{◌>>=◌, IfRead, map_refusal, refusal_within}
use Rattle.neli_wire.specs.Writing.{Wire, ◌+++◌, wire_all}

-- ---- the attributes: generic ones with payloads of bytes

-- a list of attributes as contracts see it
abbrev pub Attrs : Type 0 → Type 0
Attrs T = List (Nlattr T (List ℕ))

-- the header and the payload of each
abbrev pub AttributesRead : Type 0 → Type 0
AttributesRead T = List (Attr (AttrType T) (List ℕ))

-- their bytes, one after the other
abbrev pub attrs_wire : {T : Type 0} → (T → ℕ) → Attrs T → Wire
attrs_wire number_of = wire_all (nlattr_wire number_of (λ bytes. Ok bytes))

-- their length on the wire
abbrev pub attrs_size : {T : Type 0} → Attrs T → ℕ
attrs_size = sum_by (λ a. align (4 + length a.nla_payload))

-- ---- the message

-- a message's fields
pub record GenlFields (C V A : Type 0) : Type 0 where
  pub cmd : C
  pub version : ℕ
  pub reserved : ℕ
  pub header : V
  pub attrs : A

-- a place in an input of n bytes, as read: the family's header, and then the attributes to the end
unfoldable pub parts_of : {V A : Type 0} → (List ℕ → Reading V) → (List ℕ → Result A DeError) → ℕ → List ℕ
    → Result (V × A) DeError
parts_of header_at attrs_of n s =
    map_refusal (refusal_within n) (header_at s) >>= λ header. (attrs_of header.1 >>= λ attrs. Ok (header.0, attrs))

-- reading the family's header takes memory, or reading the rest does
unfoldable pub parts_take_memory : {V : Type 0} → (List ℕ → Reading V) → (List ℕ → Type 0) → (List ℕ → Type 0) → List ℕ
    → Type 0
parts_take_memory header_at header_takes_memory attrs_take_memory s = header_takes_memory s
    ⊎ IfRead (header_at s) (λ header rest. attrs_take_memory rest)

-- bytes that begin with the first four, as read: the command at place 0, the version at 1, two reserved bytes at 2, and
-- from 4 on the family's header and the attributes
abbrev pub fields_of : {C V A : Type 0} → (ℕ → C) → (List ℕ → Reading V) → (List ℕ → Result A DeError) → List ℕ
    → Result (GenlFields C V A) DeError
fields_of cmd_of header_at attrs_of s =
    parts_of header_at attrs_of (length s) (drop 4 s) >>= λ parts.
    Ok (record {
      cmd = cmd_of (number_in 1 0 s);
      version = number_in 1 1 s;
      reserved = number_in 2 2 s;
      header = parts.0;
      attrs = parts.1;
    })

-- bytes as read, where the family's header has `width` bytes, a multiple of four
abbrev pub genlmsghdr_of : {C V T : Type 0} → ℕ → (ℕ → C) → (ℕ → T) → (List ℕ → Reading V) → List ℕ
    → Result (GenlFields C V (AttributesRead T)) DeError
genlmsghdr_of width cmd_of value_of header_at s =
    if not (nat_eq (width % 4) 0) then Err (InvalidInput (length s))
    else if nat_lt (length s) 4 then Err (InvalidInput (length s))
    else fields_of cmd_of header_at (attributes_in (type_of value_of)) s

-- reading the family's header takes memory, or attributes follow it
abbrev pub genlmsghdr_takes_memory : {V : Type 0} → ℕ → (List ℕ → Reading V) → (List ℕ → Type 0) → List ℕ → Type 0
genlmsghdr_takes_memory width header_at header_takes_memory s =
    (width % 4 ≡ 0) × (4 ≤ length s) × parts_take_memory header_at header_takes_memory (λ rest. 0 < length rest)
    (drop 4 s)

-- the bytes before the family's header
abbrev pub genlmsghdr_bytes : ℕ → ℕ → ℕ → List ℕ
genlmsghdr_bytes cmd version reserved = little_bytes 1 cmd ++ little_bytes 1 version ++ little_bytes 2 reserved

-- the bytes of a message
abbrev pub genlmsghdr_wire : {C T H : Type 0} → (C → ℕ) → (T → ℕ) → (H → Wire) → Genlmsghdr C T H → Wire
genlmsghdr_wire cmd_number type_number header_wire m =
    (Ok (genlmsghdr_bytes (cmd_number m.cmd) m.version m.reserved) +++ header_wire m.header)
    +++ attrs_wire type_number m.attrs

-- its length on the wire
abbrev pub genlmsghdr_size : {C T H : Type 0} → (H → ℕ) → Genlmsghdr C T H → ℕ
genlmsghdr_size header_size m = 4 + header_size m.header + attrs_size m.attrs

-- the message that a builder makes, with a family's header of `width` bytes
abbrev pub genlmsghdr_built : {C T H : Type 0} → ℕ → GenlmsghdrBuilder C T H → Outcome (Genlmsghdr C T H)
genlmsghdr_built width b =
    require_field (codes "cmd") b.cmd (λ cmd.
    require_field (codes "version") b.version (λ version.
    require_field (codes "header") b.header (λ header.
    if nat_eq (width % 4) 0
    then Ok (record { cmd = cmd; version = version; reserved = 0; header = header; attrs = unwrap_or b.attrs [] })
    else Err (Invalid (codes "Header size is not a multiple of four")))))

-- the same without a family's header
abbrev pub genlmsghdr_plain : {C T H : Type 0} → H → GenlmsghdrBuilder C T H → Outcome (Genlmsghdr C T H)
genlmsghdr_plain none b =
    require_field (codes "cmd") b.cmd (λ cmd.
    require_field (codes "version") b.version (λ version.
    Ok (record {
      cmd = cmd;
      version = version;
      reserved = 0;
      header = unwrap_or b.header none;
      attrs = unwrap_or b.attrs [];
    })))
