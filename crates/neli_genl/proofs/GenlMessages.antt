-- Messages of generic netlink that are written and read again.
use Rattle.std.proofs.Common.{◌≡◌, ℕ, ◌%◌, ◌<◌, true, false, ltb, List, [], ◌++◌, length, map, Ok, refl, ap, ◌∙◌, arith}
use Rattle.std.specs.Prelude.{nat_eq}
use Rattle.std.proofs.lemmas.Bool.{le-ltb}
use Rattle.std.proofs.lemmas.List.{append-nil}
use Rattle.std.proofs.lemmas.List.Elements.{All-weaker}
use Rattle.neli_attr.specs.Attributes.{attribute, attributes_in}
use Rattle.neli_attr.specs.Nlattr.{nlattr_view, nlattr_wire}
use Rattle.neli_attr.specs.TypeField.{number_of, type_of}
use Rattle.neli_attr.specs.declared.nlattr.Nlattr.{Nlattr}
use Rattle.neli_attr.specs.laws.RoundTrips.{IsWrittenAs, attribute-written, list-reads_back, number_of-small}
use Rattle.neli_attr.specs.laws.RoundTrips.{type_of-named}
use Rattle.neli_body.specs.laws.Headers.{number-back, value-back}
use Rattle.neli_genl.specs.Genlmsghdr.{Attrs, AttributesRead, attrs_wire, genlmsghdr_bytes, parts_of}
use Rattle.neli_genl.specs.RoundTrips.{ArePlainNlattrs, GenlReadsBack, GenlReadsBackWhole, IsPlainGenlmsghdr}
use Rattle.neli_genl.specs.RoundTrips.{IsPlainNlattr}
use Rattle.neli_genl.specs.declared.genlmsghdr.Genlmsghdr.{Genlmsghdr}
use Rattle.neli_wire.specs.Bytes.{Reading}
use Rattle.neli_wire.specs.Frames.{number_in}
use Rattle.neli_wire.specs.Numbers.{little_bytes}
use Rattle.neli_wire.specs.Reading.{IsLocal}
use Rattle.neli_wire.specs.Writing.{Wire}

module _ {C T H V : Type 0} (width : ℕ) (cmd_number : C → ℕ) (cmd_of : ℕ → C) (type_number : T → ℕ) (value_of : ℕ
    → T) (header_wire : H → Wire) (header_at : List ℕ → Reading V) (local : IsLocal header_at) where
  -- a header that its own bytes spell, and then the bytes after it
  header-before : (header rest : List ℕ) (value : V) → header_at header ≡ Ok (value, [])
      → header_at (header ++ rest) ≡ Ok (value, rest)
  header-before header rest value reads =
      let own = local header [] value reads in
      ap (λ (x : List ℕ). header_at (x ++ rest)) (own.1 ∙ append-nil own.0) ∙ own.2 rest

  parts-back : (n : ℕ) (header attrs : List ℕ) (value : V) (list : AttributesRead T) → header_at header ≡ Ok (value, [])
      → attributes_in (type_of value_of) attrs ≡ Ok list
      → parts_of header_at (attributes_in (type_of value_of)) n (header ++ attrs) ≡ Ok (value, list)
  unfolding parts_of
  parts-back n header attrs value list reads lists = rw (header-before header attrs value reads, lists) refl

  pub genlmsghdr-back : (m : Genlmsghdr C T H) → IsPlainGenlmsghdr width cmd_number cmd_of m
      → GenlReadsBack width cmd_number cmd_of type_number value_of header_wire header_at m
  genlmsghdr-back m is header attrs value list writes reads spells lists =
      let front : List ℕ = genlmsghdr_bytes (cmd_number m.cmd) m.version m.reserved in
      let s : List ℕ = front ++ header ++ attrs in
      let whole : nat_eq (width % 4) 0 ≡ true = ap (λ (n : ℕ). nat_eq n 0) is.aligned in
      let long : ltb (length s) 4 ≡ false = le-ltb (length s) 4 (omega arith) in
      let parts = parts-back (length s) header attrs value list reads lists in
      let cmds : cmd_of (number_in 1 0 s) ≡ m.cmd = value-back 1 cmd_number cmd_of m.cmd
      (little_bytes 1 m.version ++ little_bytes 2 m.reserved ++ header ++ attrs) is.cmd in
      let versions : number_in 1 1 s ≡ m.version = number-back 1 m.version
      (little_bytes 2 m.reserved ++ header ++ attrs) is.version in
      let reserves : number_in 2 2 s ≡ m.reserved = number-back 2 m.reserved (header ++ attrs) is.reserved in
      (rw (writes, spells) refl, rw (whole, long, parts, cmds, versions, reserves) refl)

  -- ---- attributes

  plain-written : (a : Nlattr T (List ℕ)) → IsPlainNlattr type_number value_of a
      → IsWrittenAs (attribute (type_of value_of) (λ bytes. Ok bytes))
      (nlattr_wire type_number (λ bytes. Ok bytes)) nlattr_view a
  plain-written a is =
      let small : type_number a.nla_type.nla_type < 65536 = omega (arith, is.kind) in
      attribute-written (type_of value_of) a.nla_len (number_of type_number a.nla_type) a.nla_type a.nla_payload is.len
      is.fits (number_of-small type_number a.nla_type small)
      (type_of-named value_of type_number a.nla_type is.kind is.named)

  attrs-back : (attrs : Attrs T) → ArePlainNlattrs type_number value_of attrs
      → (bytes : List ℕ) × (attrs_wire type_number attrs ≡ Ok bytes)
      × (attributes_in (type_of value_of) bytes ≡ Ok (map nlattr_view attrs))
  attrs-back attrs are =
      list-reads_back (type_of value_of) (nlattr_wire type_number (λ bytes. Ok bytes)) nlattr_view attrs
      (All-weaker (IsPlainNlattr type_number value_of)
      (IsWrittenAs (attribute (type_of value_of) (λ bytes. Ok bytes))
      (nlattr_wire type_number (λ bytes. Ok bytes)) nlattr_view) plain-written attrs are)

  pub genlmsghdr-whole : (view : H → V) (m : Genlmsghdr C T H) → IsPlainGenlmsghdr width cmd_number cmd_of m
      → ArePlainNlattrs type_number value_of m.attrs → GenlReadsBackWhole width cmd_number cmd_of type_number value_of
      header_wire header_at view m
  genlmsghdr-whole view m is are header writes reads =
      let list = attrs-back m.attrs are in
      let both = genlmsghdr-back m is header list.0 (view m.header)
      (map nlattr_view m.attrs) writes reads list.1 list.2 in
      (genlmsghdr_bytes (cmd_number m.cmd) m.version m.reserved ++ header ++ list.0, both.0, both.1)
