-- The kinds of a payload, a field, a body or a case (docs/TABLES.md).
use Rattle.std.specs.Prelude.{ℕ, List, [], ◌∷◌, Option, codes}
use Rattle.neli_tables.specs.declared.kind.Kind.{Kind}
use Rattle.neli_tables.specs.declared.kind.Kind.TheVariants.{Flag, U8, U16, U32, U64, S8, S16, S32, S64}
use Rattle.neli_tables.specs.declared.kind.Kind.TheVariants.{Be16, Be32, Be64, Sbe32}
use Rattle.neli_tables.specs.declared.kind.Kind.TheVariants.{Uint, Sint, Text, Ztext, Hardware, Ipv4}
use Rattle.neli_tables.specs.declared.kind.Kind.TheVariants.{Ipv6, Ip, Address, Sockaddr}
use Rattle.neli_tables.specs.declared.kind.Kind.TheVariants.{Uuid, Bits, Struct, Nest, Hops, Choice}
use Rattle.neli_tables.specs.declared.kind.Kind.TheVariants.{Bytes, Pad}
use Rattle.neli_tables.specs.Rows.{named}

-- each name, and its kind
unfoldable pub kinds : List (List ℕ × Kind)
kinds =
    (codes "flag", Flag) ∷
    (codes "u8", U8) ∷
    (codes "u16", U16) ∷
    (codes "u32", U32) ∷
    (codes "u64", U64) ∷
    (codes "s8", S8) ∷
    (codes "s16", S16) ∷
    (codes "s32", S32) ∷
    (codes "s64", S64) ∷
    (codes "be16", Be16) ∷
    (codes "be32", Be32) ∷
    (codes "be64", Be64) ∷
    (codes "sbe32", Sbe32) ∷
    (codes "uint", Uint) ∷
    (codes "sint", Sint) ∷
    (codes "text", Text) ∷
    (codes "ztext", Ztext) ∷
    (codes "hardware", Hardware) ∷
    (codes "ipv4", Ipv4) ∷
    (codes "ipv6", Ipv6) ∷
    (codes "ip", Ip) ∷
    (codes "address", Address) ∷
    (codes "sockaddr", Sockaddr) ∷
    (codes "uuid", Uuid) ∷
    (codes "bits", Bits) ∷
    (codes "struct", Struct) ∷
    (codes "nest", Nest) ∷
    (codes "hops", Hops) ∷
    (codes "choice", Choice) ∷
    (codes "bytes", Bytes) ∷
    (codes "pad", Pad) ∷
    []

-- the kind with this name
abbrev pub kind_named : List ℕ → Option Kind
kind_named name = named kinds name
