-- What is printed as JSON is one value.
use Rattle.std.proofs.Common.{◌≡◌, ℕ, ◌/◌, ◌%◌, true, false, List, [], ◌∷◌, ◌++◌, codes}
use Rattle.std.proofs.Common.{length, refl, subst}
use Rattle.std.proofs.Common.{ℤ, append_assoc, Option, Some, None, drop, take, ap, ◌∙◌, sym}
use Rattle.std.specs.Prelude.{◌==◌, ◌||◌, slice_range}
use Rattle.std.specs.Fmt.{decimal, digits}
use Rattle.std.specs.List.{list_all}
use Rattle.std.specs.Net.Addr.{segments_of}
use Rattle.std.proofs.lemmas.Bool.{cond_both}
use Rattle.neli_tables.specs.Lines.{LineSeen}
use Rattle.neli_tables.specs.declared.options.Options.{Options}
use Rattle.neli_tables.specs.Bits.{is_set, unnamed_bits}
use Rattle.neli_tables.specs.Families.{Lines}
use Rattle.neli_tables.specs.Options.{options_of}
use Rattle.neli_tables.specs.FoundRows.{rows_of}
use Rattle.neli_tables_walk.specs.declared.breach.Breach.{Breach}
use Rattle.neli_tables_walk.specs.declared.breach.Breach.TheVariants as breach
use Rattle.neli_tables_walk.specs.declared.form.Cell.{Cell}
use Rattle.neli_tables_walk.specs.declared.form.Cell.TheVariants as cell
use Rattle.neli_tables_walk.specs.declared.form.Form.{Form}
use Rattle.neli_tables_walk.specs.declared.form.Form.TheVariants as form
use Rattle.neli_tables_walk.specs.declared.form.Plain.{Plain}
use Rattle.neli_tables_walk.specs.declared.form.Plain.TheVariants as plain
use Rattle.neli_tables_walk.specs.declared.number.Number.{Number}
use Rattle.neli_tables_walk.specs.declared.number.Width.{Width}
use Rattle.neli_tables_walk.specs.Addresses.{flow_of, ip_in_text, ip_json, is_v4, is_v6, port_of}
use Rattle.neli_tables_walk.specs.Addresses.{scope_of}
use Rattle.neli_tables_walk.specs.Addresses.{socket_json, v4_json, v6_json}
use Rattle.neli_tables_walk.specs.Breaches.{breach_text, without_zero}
use Rattle.neli_tables_walk.specs.Cells.{cell_json, kept_cell, value_json}
use Rattle.neli_tables_walk.specs.FieldBytes.{field_bytes}
use Rattle.neli_tables_walk.specs.FieldLists.{Printed, fields_json_by, member_by, member_with}
use Rattle.neli_tables_walk.specs.FieldLists.{member_json_with}
use Rattle.neli_tables_walk.specs.Fields.{fields_json}
use Rattle.neli_tables_walk.specs.Flags.{bit_texts_by, flags_json, in_quotes, name_if_set, unnamed_text}
use Rattle.neli_tables_walk.specs.Hex.{byte_text, bytes_json, bytes_text, hardware_text, hex_text}
use Rattle.neli_tables_walk.specs.Hex.{later_hex_text, uuid_text}
use Rattle.neli_tables_walk.specs.Json.{AreMembers, IsChars, IsJson, integer, is_plain, member, members}
use Rattle.neli_tables_walk.specs.Json.{object}
use Rattle.neli_tables_walk.specs.Json.{plain as chars_plain, string, truth}
use Rattle.neli_tables_walk.specs.Lists.{parts_of}
use Rattle.neli_tables_walk.specs.Named.{name_of, name_or_json, number_json, number_json_by}
use Rattle.neli_tables_walk.specs.Named.{number_or_json}
use Rattle.neli_tables_walk.specs.Named.{part_json}
use Rattle.neli_tables_walk.specs.Names.{escaped_or_hex, name_json, name_text}
use Rattle.neli_tables_walk.specs.Numbers.{number_in, plain_number_json, signed_or}
use Rattle.neli_tables_walk.specs.Plains.{bits_json, bits_width, item_json, kept_plain}
use Rattle.neli_tables_walk.specs.Plains.{plain_json}
use Rattle.neli_tables_walk.specs.Plains.{quoted_or_json, text_json}
use Rattle.neli_tables_walk.specs.Quoted.{text_in}
use Rattle.neli_tables_walk.specs.Values.{form_json, kept_form, line_options, payload_json}
use Rattle.neli_tables_walk.specs.Values.{payload_json_by}
use Rattle.neli_tables_walk.specs.laws.Addresses.{dotted-plain, ipv6-plain}
use Rattle.neli_tables_walk.specs.laws.Parts.{Each, array-joined, each-append, each-flat, each-map}
use Rattle.neli_tables_walk.specs.laws.Parts.{named, natural}
use Rattle.neli_tables_walk.specs.laws.Parts.{none, object-joined, one, plain_string}
use Rattle.neli_tables_walk.specs.laws.Strings.{digits-plain, escaped-chars, plain-append, quoted-string}

-- ---- bytes

pub byte-plain : (b : ℕ) → list_all is_plain (byte_text b) ≡ true
byte-plain b =
    plain-append (digits 16 false (b / 16)) (digits 16 false (b % 16)) (digits-plain 16 (b / 16))
    (digits-plain 16 (b % 16))

pub hex-plain : (bytes : List ℕ) → list_all is_plain (hex_text bytes) ≡ true
hex-plain [] = refl
hex-plain (b ∷ bytes) = plain-append (byte_text b) (hex_text bytes) (byte-plain b) (hex-plain bytes)

later_hex-plain : (bytes : List ℕ) → list_all is_plain (later_hex_text bytes) ≡ true
later_hex-plain [] = refl
later_hex-plain (b ∷ bytes) =
    plain-append (codes ":" ++ byte_text b) (later_hex_text bytes) (byte-plain b)
    (later_hex-plain bytes)

pub hardware-plain : (bytes : List ℕ) → list_all is_plain (hardware_text bytes) ≡ true
hardware-plain [] = refl
hardware-plain (b ∷ bytes) =
    plain-append (byte_text b) (later_hex_text bytes) (byte-plain b) (later_hex-plain bytes)

pub bytes-plain : (bytes : List ℕ) → list_all is_plain (bytes_text bytes) ≡ true
bytes-plain [] = refl
bytes-plain (b ∷ bytes) =
    plain-append (codes "0x") (hex_text (b ∷ bytes)) refl (hex-plain (b ∷ bytes))

pub bytes_json-json : (bytes : List ℕ) → IsJson (bytes_json bytes)
bytes_json-json bytes =
    let hex = hex_text bytes in
    subst (λ (l : List ℕ). IsJson (codes "{\"bytes\":\"" ++ l)) (append_assoc hex (codes "\"")
    (codes "}"))
    (object (codes "\"bytes\":\"" ++ (hex ++ codes "\""))
    (named (codes "bytes") (codes "\"" ++ (hex ++ codes "\"")) refl (plain_string hex
    (hex-plain bytes))))

-- a dash between two texts
dash : (t u : List ℕ) → list_all is_plain t ≡ true → list_all is_plain u ≡ true
    → list_all is_plain (t ++ (codes "-" ++ u)) ≡ true
dash t u p q = plain-append t (codes "-" ++ u) p (plain-append (codes "-") u refl q)

groups-plain : (a b c d e : List ℕ)
    → list_all is_plain (hex_text a ++ (codes "-" ++ (hex_text b ++ (codes "-" ++ (hex_text c
    ++ (codes "-" ++ (hex_text d ++ (codes "-" ++ hex_text e)))))))) ≡ true
groups-plain a b c d e =
    dash (hex_text a) (hex_text b ++ (codes "-" ++ (hex_text c ++ (codes "-" ++ (hex_text d
    ++ (codes "-" ++ hex_text e)))))) (hex-plain a)
    (dash (hex_text b) (hex_text c ++ (codes "-" ++ (hex_text d ++ (codes "-"
    ++ hex_text e)))) (hex-plain b)
    (dash (hex_text c) (hex_text d ++ (codes "-" ++ hex_text e)) (hex-plain c)
    (dash (hex_text d) (hex_text e) (hex-plain d) (hex-plain e))))

uuid-plain : (bytes : List ℕ) → list_all is_plain (uuid_text bytes) ≡ true
uuid-plain bytes =
    cond_both (length bytes == 16) _ _ (λ t. list_all is_plain t ≡ true)
    (λ e. groups-plain (take 4 bytes) (slice_range bytes 4 6) (slice_range bytes 6 8)
    (slice_range bytes 8 10) (drop 10 bytes))
    (λ e. bytes-plain bytes)

-- ---- names

pub name_text-chars : (name : List ℕ) → IsChars (name_text name)
name_text-chars name = by (text_in name)
  where
    by : (text : Option (List ℕ)) → IsChars (escaped_or_hex name text)
    by (Some text) = escaped-chars text
    by None = chars_plain (hex_text name) (hex-plain name)

pub name_json-json : (name : List ℕ) → IsJson (name_json name)
name_json-json name = string (name_text name) (name_text-chars name)

-- a member with a name of a table
pub named_member : (name value : List ℕ) → IsJson value
    → AreMembers (name_json name ++ (codes ":" ++ value))
named_member name value json =
    subst (λ (l : List ℕ). AreMembers (codes "\"" ++ l))
    (sym (append_assoc (name_text name) (codes "\"") (codes ":" ++ value)))
    (member (name_text name) value (name_text-chars name) json)

-- ---- a breach

around-plain : (n : ℕ) (before after : List ℕ) → list_all is_plain before ≡ true
    → list_all is_plain after ≡ true → list_all is_plain (before ++ (decimal n ++ after)) ≡ true
around-plain n before after p q =
    plain-append before (decimal n ++ after) p (plain-append (decimal n) after
    (digits-plain 10 n) q)

pub breach-plain : (b : Breach) → list_all is_plain (breach_text b) ≡ true
breach-plain (breach.Shorter size) =
    around-plain size (codes "shorter than ") (codes " bytes") refl refl
breach-plain (breach.Longer size) =
    around-plain size (codes "longer than ") (codes " bytes") refl refl
breach-plain (breach.Uneven size) =
    around-plain size (codes "no whole parts of ") (codes " bytes") refl refl
breach-plain breach.NotText = refl
breach-plain breach.NoZero = refl
breach-plain breach.NoAddress = refl
breach-plain breach.NoSocket = refl

-- ---- numbers

number-json : (n : Number) → IsJson (plain_number_json n)
number-json n = by n.signed
  where
    by : (z : Option ℤ) → IsJson (signed_or z n.bits)
    by (Some z) = integer z
    by None = natural n.bits

quoted-chars : (text : List ℕ) → IsChars text → IsJson (codes "\"" ++ (text ++ codes "\""))
quoted-chars text is = string text is

name_if_set-chars : (bits : ℕ) (row : LineSeen) → Each IsChars (name_if_set bits row)
name_if_set-chars bits row =
    cond_both (is_set bits row) _ _ (Each IsChars)
    (λ e. one (name_text row.name) [] (name_text-chars row.name) none) (λ e. none)

unnamed-chars : (left : ℕ) → Each IsChars (unnamed_text left)
unnamed-chars left =
    cond_both (left == 0) _ _ (Each IsChars) (λ e. none)
    (λ e. one _ [] (chars_plain _ (plain-append (codes "0x") (digits 16 false left) refl
    (digits-plain 16 left))) none)

bits-chars : (rows : List LineSeen) (bits : ℕ) → Each IsChars (bit_texts_by rows bits)
bits-chars rows bits =
    each-append IsChars _ _ (each-flat IsChars (name_if_set bits) (name_if_set-chars bits) rows)
    (unnamed-chars (unnamed_bits bits bits rows))

in_quotes-json : (texts : List (List ℕ)) → Each IsChars texts
    → Each IsJson (in_quotes (codes "\"") texts)
in_quotes-json [] are = none
in_quotes-json (t ∷ ts) (one _ _ is are) = one _ _ (quoted-chars t is) (in_quotes-json ts are)

flags_json-json : (table : Lines) (place bits : ℕ) → IsJson (flags_json table place bits)
flags_json-json table place bits =
    array-joined _ (in_quotes-json _ (bits-chars (rows_of place table) bits))

name_or_json-json : (n : Number) (name : Option (List ℕ)) → IsJson (name_or_json n name)
name_or_json-json n (Some name) = name_json-json name
name_or_json-json n None = number-json n

number_json-json : (table : Lines) (o : Options) (n : Number) → IsJson (number_json table o n)
number_json-json table o n = by o.flags
  where
    by : (place : Option ℕ) → IsJson (number_json_by table o n place)
    by (Some place) = flags_json-json table place n.bits
    by None = name_or_json-json n (name_of table o.values n.bits)

part_json-json : (table : Lines) (o : Options) (w : Width) (bytes : List ℕ)
    → IsJson (part_json table o w bytes)
part_json-json table o w bytes = by (number_in w bytes)
  where
    by : (n : Option Number) → IsJson (number_or_json table o bytes n)
    by (Some n) = number_json-json table o n
    by None = bytes_json-json bytes

-- ---- objects of several members

bits_json-json : (table : Lines) (o : Options) (bytes : List ℕ) → IsJson (bits_json table o bytes)
bits_json-json table o bytes =
    let v = part_json table o bits_width (take 4 bytes) in
    let s = part_json table o bits_width (drop 4 bytes) in
    subst (λ (l : List ℕ). IsJson (codes "{\"value\":" ++ l))
    (append_assoc v (codes ",\"selector\":" ++ s) (codes "}"))
    (object _ (members _ _
    (named (codes "value") v refl (part_json-json table o bits_width (take 4 bytes)))
    (named (codes "selector") s refl (part_json-json table o bits_width (drop 4 bytes)))))

-- ---- addresses

ip-plain : (bytes : List ℕ) → list_all is_plain (ip_in_text bytes) ≡ true
ip-plain bytes =
    cond_both (length bytes == 4) _ _ (λ t. list_all is_plain t ≡ true)
    (λ e. dotted-plain _ _ _ _)
    (λ e. cond_both (length bytes == 16) _ _ (λ t. list_all is_plain t ≡ true)
    (λ f. ipv6-plain (segments_of bytes)) (λ f. bytes-plain bytes))

ip_json-json : (bytes : List ℕ) → IsJson (ip_json bytes)
ip_json-json bytes =
    cond_both (length bytes == 4 || length bytes == 16) _ _ IsJson
    (λ e. plain_string (ip_in_text bytes) (ip-plain bytes)) (λ e. bytes_json-json bytes)

v4_json-json : (bytes : List ℕ) → IsJson (v4_json bytes)
v4_json-json bytes =
    let a = ip_json (slice_range bytes 4 8) in
    let p = port_of bytes in
    subst (λ (l : List ℕ). IsJson (codes "{\"address\":" ++ l))
    (append_assoc a (codes ",\"port\":" ++ p) (codes "}"))
    (object _ (members _ _ (named (codes "address") a refl (ip_json-json (slice_range bytes 4 8)))
    (named (codes "port") p refl (natural _))))

v6_json-json : (bytes : List ℕ) → IsJson (v6_json bytes)
v6_json-json bytes =
    let a = ip_json (slice_range bytes 8 24) in
    let p = port_of bytes in
    let f = flow_of bytes in
    let s = scope_of bytes in
    let third = f ++ (codes ",\"scope_id\":" ++ s) in
    let second = p ++ (codes ",\"flowinfo\":" ++ third) in
    subst (λ (l : List ℕ). IsJson (codes "{\"address\":" ++ l))
    (append_assoc a (codes ",\"port\":" ++ second) (codes "}")
    ∙ ap (λ (l : List ℕ). a ++ (codes ",\"port\":" ++ l))
    (append_assoc p (codes ",\"flowinfo\":" ++ third) (codes "}")
    ∙ ap (λ (l : List ℕ). p ++ (codes ",\"flowinfo\":" ++ l))
    (append_assoc f (codes ",\"scope_id\":" ++ s) (codes "}"))))
    (object _ (members _ _ (named (codes "address") a refl (ip_json-json (slice_range bytes 8 24)))
    (members _ _ (named (codes "port") p refl (natural _))
    (members _ _ (named (codes "flowinfo") f refl (natural _))
    (named (codes "scope_id") s refl (natural _))))))

socket_json-json : (bytes : List ℕ) → IsJson (socket_json bytes)
socket_json-json bytes =
    cond_both (is_v4 bytes) _ _ IsJson (λ e. v4_json-json bytes)
    (λ e. cond_both (is_v6 bytes) _ _ IsJson (λ f. v6_json-json bytes) (λ f. bytes_json-json bytes))

-- ---- what bytes are

text_json-json : (bytes : List ℕ) → IsJson (text_json bytes)
text_json-json bytes = by (text_in bytes)
  where
    by : (text : Option (List ℕ)) → IsJson (quoted_or_json bytes text)
    by (Some text) = quoted-string text
    by None = bytes_json-json bytes

plain_json-json : (table : Lines) (o : Options) (p : Plain) (bytes : List ℕ)
    → IsJson (plain_json table o p bytes)
plain_json-json table o plain.Flag bytes = truth
plain_json-json table o (plain.Number w) bytes = part_json-json table o w bytes
plain_json-json table o (plain.Numbers w) bytes =
    array-joined _ (each-map IsJson (part_json table o w) (part_json-json table o w)
    (parts_of w.size bytes))
plain_json-json table o plain.Bits bytes = bits_json-json table o bytes
plain_json-json table o plain.Text bytes = text_json-json (without_zero bytes)
plain_json-json table o plain.ZeroText bytes = text_json-json (without_zero bytes)
plain_json-json table o plain.Hardware bytes =
    plain_string (hardware_text bytes) (hardware-plain bytes)
plain_json-json table o plain.Ipv4 bytes = ip_json-json bytes
plain_json-json table o plain.Ipv6 bytes = ip_json-json bytes
plain_json-json table o plain.Ip bytes = ip_json-json bytes
plain_json-json table o plain.Socket bytes = socket_json-json bytes
plain_json-json table o plain.Uuid bytes = plain_string (uuid_text bytes) (uuid-plain bytes)
plain_json-json table o plain.Bytes bytes = bytes_json-json bytes

-- ---- fields, and payloads

-- what prints values of JSON
abbrev pub PrintsJson : Printed → Type 0
PrintsJson value = (table : Lines) (o : Options) (bytes : List ℕ) → IsJson (value table o bytes)

member-members : (value : Printed) → PrintsJson value
    → (table : Lines) (bytes : List ℕ) (row : LineSeen)
    → Each AreMembers (member_by value table bytes row)
member-members value json table bytes row = by (field_bytes row bytes)
  where
    by : (part : Option (List ℕ))
        → Each AreMembers (member_with value table row.name (options_of row) part)
    by None = none
    by (Some part) =
        one (member_json_with value table row.name (options_of row) part) []
        (named_member row.name (value table (options_of row) part) (json table
        (options_of row) part)) none

fields-by-json : (value : Printed) → PrintsJson value → (table : Lines) (place : ℕ) (bytes : List ℕ)
    → IsJson (fields_json_by value table place bytes)
fields-by-json value json table place bytes =
    object-joined _
    (each-flat AreMembers (member_by value table bytes) (member-members value json table bytes)
    (rows_of place table))

item_json-json : PrintsJson item_json
item_json-json table o bytes = plain_json-json table o (kept_plain o bytes) bytes

cell_json-json : (table : Lines) (o : Options) (c : Cell) (bytes : List ℕ)
    → IsJson (cell_json table o c bytes)
cell_json-json table o (cell.Plain p) bytes = plain_json-json table o p bytes
cell_json-json table o (cell.Structures place size) bytes =
    array-joined _
    (each-map IsJson (fields_json_by item_json table place)
    (fields-by-json item_json item_json-json table place) (parts_of size bytes))

value_json-json : PrintsJson value_json
value_json-json table o bytes = cell_json-json table o (kept_cell table o bytes) bytes

-- the fields of a structure are one value of JSON, whatever the table and the bytes are
pub fields_json-json : (table : Lines) (place : ℕ) (bytes : List ℕ)
    → IsJson (fields_json table place bytes)
fields_json-json = fields-by-json value_json value_json-json

form_json-json : (table : Lines) (o : Options) (f : Form) (bytes : List ℕ)
    → IsJson (form_json table o f bytes)
form_json-json table o (form.Cell c) bytes = cell_json-json table o c bytes
form_json-json table o (form.Fields place) bytes = fields_json-json table place bytes

-- a payload is one value of JSON, whatever the table and the bytes are
pub payload_json-json : (table : Lines) (place : ℕ) (bytes : List ℕ)
    → IsJson (payload_json table place bytes)
payload_json-json table place bytes = by (line_options table place)
  where
    by : (o : Option Options) → IsJson (payload_json_by table bytes o)
    by None = bytes_json-json bytes
    by (Some o) = form_json-json table o (kept_form table o bytes) bytes
