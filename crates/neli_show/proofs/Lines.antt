-- An input in JSON is as many lines as it has messages, faults and parts that are no datagrams.
use Rattle.std.proofs.Common.{◌≡◌, ℕ, zero, suc, ◌+◌, List, [], ◌∷◌, ◌++◌, codes, refl, sym, ap}
use Rattle.std.proofs.Common.{subst, ◌∙◌, append_assoc, append-nil, arith, true, Result, Ok, Err}
use Rattle.std.specs.Fmt.{decimal}
use Rattle.std.specs.List.{list_all}
use Rattle.std.specs.Option.{unwrap_or}
use Rattle.neli_inputs.specs.Refusals.{refusal_text}
use Rattle.neli_inputs.specs.declared.item.Item.{Item}
use Rattle.neli_inputs.specs.declared.item.Packet.{Packet}
use Rattle.neli_inputs.specs.declared.item.Refusal.{Refusal}
use Rattle.neli_inputs.specs.declared.item.Refusal.TheVariants as refusal
use Rattle.neli_print.specs.laws.Printed.{datagram_json-lines}
use Rattle.neli_tables.specs.declared.tables.Tables.{Tables}
use Rattle.neli_tables_walk.specs.Json.{AreSoManyLines, IsJson, is_plain, members, object}
use Rattle.neli_tables_walk.specs.laws.Parts.{named, natural, plain_string}
use Rattle.neli_tables_walk.specs.laws.Strings.{digits-plain, plain-append}
use Rattle.neli_show.specs.Lines.{input_lines, packet_lines}
use Rattle.neli_show.specs.Parts.{input_by, packet_by, packet_bytes, refusal_json}
use Rattle.neli_show.specs.declared.request.Output.TheVariants as output

-- ---- lines after lines

pub lines_more :
    (n m : ℕ) (before text : List ℕ) → AreSoManyLines n before → AreSoManyLines m text
    → AreSoManyLines (n + m) (before ++ text)
lines_more zero m before text none some =
    let all : m ≡ 0 + m = omega arith in
    subst (λ (k : ℕ). AreSoManyLines k (before ++ text)) all
    (subst (λ (l : List ℕ). AreSoManyLines m (l ++ text)) (sym none) some)
lines_more (suc n) m before text is some =
    let all : suc (n + m) ≡ suc n + m = omega arith in
    subst (λ (k : ℕ). AreSoManyLines k (before ++ text)) all (
      is.0,
      is.1 ++ text,
      is.2,
      lines_more n m is.1 text is.3 some,
      ap (λ (l : List ℕ). l ++ text) is.4 ∙ append_assoc is.0 is.1 text,
    )

-- ---- a part that is no datagram

around-plain : (n : ℕ) (before behind : List ℕ) → list_all is_plain before ≡ true
    → list_all is_plain behind ≡ true
    → list_all is_plain (before ++ (decimal n ++ behind)) ≡ true
around-plain n before behind first last =
    plain-append before (decimal n ++ behind) first
    (plain-append (decimal n) behind (digits-plain 10 n) last)

refusal-plain : (r : Refusal) → list_all is_plain (refusal_text r) ≡ true
refusal-plain refusal.FileHeader = refl
refusal-plain (refusal.LinkType link) =
    plain-append (codes "a file of link type ") (decimal link) refl (digits-plain 10 link)
refusal-plain refusal.RecordHeader = refl
refusal-plain (refusal.RecordBytes count) =
    around-plain count (codes "the input ends after ") (codes " bytes of a record") refl refl
refusal-plain (refusal.Snapped length) =
    around-plain length (codes "a packet cut short from ") (codes " bytes") refl refl
refusal-plain refusal.ByteOrder = refl
refusal-plain (refusal.BlockSize size) =
    around-plain size (codes "a block that states ") (codes " bytes") refl refl
refusal-plain (refusal.NoInterface number) =
    around-plain number (codes "a packet of interface ") (codes ", which is not described") refl refl
refusal-plain (refusal.PacketSize size) =
    around-plain size (codes "a packet that states ") (codes " bytes, more than there are") refl refl
refusal-plain refusal.NotNetlink = refl
refusal-plain refusal.Gap = refl
refusal-plain refusal.LeftOut = refl
refusal-plain refusal.NotHex = refl

-- its members, closed
closed : (place : ℕ) (text : List ℕ) → codes "{"
    ++ ((codes "\"fault\":\"" ++ (text ++ codes "\"")
    ++ (codes "," ++ (codes "\"input\":" ++ decimal place)))
    ++ codes "}") ++ codes "\n"
    ≡ codes "{\"fault\":\"" ++ (text ++ (codes "\",\"input\":" ++ (decimal place ++ codes "}\n")))
closed place text = search (append_assoc)

pub refusal-line : (place : ℕ) (r : Refusal) → AreSoManyLines 1 (refusal_json place r)
refusal-line place r =
    let text = refusal_text r in
    let first = codes "\"fault\":\"" ++ (text ++ codes "\"") in
    let second = codes "\"input\":" ++ decimal place in
    let json : IsJson (codes "{" ++ ((first ++ (codes "," ++ second)) ++ codes "}")) =
    object _ (members first second
    (named (codes "fault") (codes "\"" ++ (text ++ codes "\"")) refl
    (plain_string text (refusal-plain r)))
    (named (codes "input") (decimal place) refl (natural place))) in (
      refusal_json place r,
      [],
      (codes "{" ++ ((first ++ (codes "," ++ second)) ++ codes "}"), json, sym (closed place text)),
      refl,
      sym (append-nil (refusal_json place r)),
    )

-- ---- an input

packet-lines : (tables : Tables) (protocol : ℕ) (bytes : List ℕ) (place : ℕ)
    (packet : Result Packet Refusal)
    → AreSoManyLines (packet_lines bytes packet)
    (packet_by output.Json tables protocol bytes place packet)
packet-lines tables protocol bytes place (Ok packet) =
    datagram_json-lines tables (unwrap_or packet.family protocol) (packet_bytes bytes packet)
packet-lines tables protocol bytes place (Err r) = refusal-line place r

pub input-lines : (tables : Tables) (protocol : ℕ) (bytes : List ℕ) (items : List Item)
    → AreSoManyLines (input_lines bytes items) (input_by output.Json tables protocol bytes items)
input-lines tables protocol bytes [] = refl
input-lines tables protocol bytes (item ∷ items) =
    lines_more (packet_lines bytes item.packet) (input_lines bytes items) _ _
    (packet-lines tables protocol bytes item.place item.packet)
    (input-lines tables protocol bytes items)
