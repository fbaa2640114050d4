-- Payloads and fields that are no structures.
use Rattle.std.specs.Prelude.{ℕ, false, if◌then◌else◌, is_some, List, [], ◌++◌, length, codes, drop}
use Rattle.std.specs.Prelude.{take, map}
use Rattle.std.specs.Prelude.{Option, Some, None}
use Rattle.std.specs.List.{flat_map}
use Rattle.neli_tables.specs.declared.options.Options.{Options}
use Rattle.neli_tables.specs.Families.{Lines}
use Rattle.neli_tables_walk.specs.declared.form.Plain.{Plain}
use Rattle.neli_tables_walk.specs.declared.form.Plain.TheVariants as plain
use Rattle.neli_tables_walk.specs.declared.number.Width.{Width}
use Rattle.neli_tables_walk.specs.Addresses.{ip_in_text, ip_json, socket_json, socket_text}
use Rattle.neli_tables_walk.specs.Breaches.{plain_breach, without_zero}
use Rattle.neli_tables_walk.specs.Forms.{plain_of}
use Rattle.neli_tables_walk.specs.Hex.{address_text, bytes_json, bytes_text, hardware_text, uuid_text}
use Rattle.neli_tables_walk.specs.Lists.{joined, parts_of}
use Rattle.neli_tables_walk.specs.Named.{part_json, part_text}
use Rattle.neli_tables_walk.specs.Numbers.{width_with}
use Rattle.neli_tables_walk.specs.Quoted.{quoted, text_in}

-- ---- texts

abbrev pub quoted_or_text : List ℕ → Option (List ℕ) → List ℕ
quoted_or_text bytes (Some text) = quoted text
quoted_or_text bytes None = bytes_text bytes

abbrev pub quoted_or_json : List ℕ → Option (List ℕ) → List ℕ
quoted_or_json bytes (Some text) = quoted text
quoted_or_json bytes None = bytes_json bytes

-- a text in quotes; bytes that are none as these
abbrev pub text_text : List ℕ → List ℕ
text_text bytes = quoted_or_text bytes (text_in bytes)

abbrev pub text_json : List ℕ → List ℕ
text_json bytes = quoted_or_json bytes (text_in bytes)

-- ---- numbers

abbrev pub blank_part_text : Lines → Options → Width → List ℕ → List ℕ
blank_part_text table o w part = codes " " ++ part_text table o w part

-- each after a blank
abbrev pub numbers_text : Lines → Options → Width → List ℕ → List ℕ
numbers_text table o w bytes = flat_map (blank_part_text table o w) (parts_of w.size bytes)

-- with commas between them
abbrev pub numbers_json : Lines → Options → Width → List ℕ → List ℕ
numbers_json table o w bytes =
    joined (codes ",") (map (part_json table o w) (parts_of w.size bytes))

-- a number of four bytes in the host's order
abbrev pub bits_width : Width
bits_width = width_with 4 false false

-- bits, and which of them count
abbrev pub bits_text : Lines → Options → List ℕ → List ℕ
bits_text table o bytes =
    codes "value " ++ (part_text table o bits_width (take 4 bytes)
    ++ (codes " selector " ++ part_text table o bits_width (drop 4 bytes)))

abbrev pub bits_json : Lines → Options → List ℕ → List ℕ
bits_json table o bytes =
    codes "{\"value\":" ++ (part_json table o bits_width (take 4 bytes)
    ++ (codes ",\"selector\":" ++ (part_json table o bits_width (drop 4 bytes) ++ codes "}")))

-- ---- all kinds

-- what bytes are, each value after a blank
abbrev pub plain_text : Lines → Options → Plain → List ℕ → List ℕ
plain_text table o plain.Flag bytes = []
plain_text table o (plain.Number w) bytes = codes " " ++ part_text table o w bytes
plain_text table o (plain.Numbers w) bytes = numbers_text table o w bytes
plain_text table o plain.Bits bytes = codes " " ++ bits_text table o bytes
plain_text table o plain.Text bytes = codes " " ++ text_text (without_zero bytes)
plain_text table o plain.ZeroText bytes = codes " " ++ text_text (without_zero bytes)
plain_text table o plain.Hardware bytes = codes " " ++ address_text bytes
plain_text table o plain.Ipv4 bytes = codes " " ++ ip_in_text bytes
plain_text table o plain.Ipv6 bytes = codes " " ++ ip_in_text bytes
plain_text table o plain.Ip bytes = codes " " ++ ip_in_text bytes
plain_text table o plain.Socket bytes = codes " " ++ socket_text bytes
plain_text table o plain.Uuid bytes = codes " " ++ uuid_text bytes
plain_text table o plain.Bytes bytes = codes " " ++ bytes_text bytes

-- one value of JSON
abbrev pub plain_json : Lines → Options → Plain → List ℕ → List ℕ
plain_json table o plain.Flag bytes = codes "true"
plain_json table o (plain.Number w) bytes = part_json table o w bytes
plain_json table o (plain.Numbers w) bytes =
    codes "[" ++ (numbers_json table o w bytes ++ codes "]")
plain_json table o plain.Bits bytes = bits_json table o bytes
plain_json table o plain.Text bytes = text_json (without_zero bytes)
plain_json table o plain.ZeroText bytes = text_json (without_zero bytes)
plain_json table o plain.Hardware bytes = codes "\"" ++ (hardware_text bytes ++ codes "\"")
plain_json table o plain.Ipv4 bytes = ip_json bytes
plain_json table o plain.Ipv6 bytes = ip_json bytes
plain_json table o plain.Ip bytes = ip_json bytes
plain_json table o plain.Socket bytes = socket_json bytes
plain_json table o plain.Uuid bytes = codes "\"" ++ (uuid_text bytes ++ codes "\"")
plain_json table o plain.Bytes bytes = bytes_json bytes

-- ---- by the options of a line

-- what bytes are, where that is no structure; bytes that cannot be so are bytes
abbrev pub kept_plain : Options → List ℕ → Plain
kept_plain o bytes =
    if is_some (plain_breach (plain_of o (length bytes)) bytes) then plain.Bytes
    else plain_of o (length bytes)

abbrev pub item_text : Lines → Options → List ℕ → List ℕ
item_text table o bytes = plain_text table o (kept_plain o bytes) bytes

abbrev pub item_json : Lines → Options → List ℕ → List ℕ
item_json table o bytes = plain_json table o (kept_plain o bytes) bytes
