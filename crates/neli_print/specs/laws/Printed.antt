-- What is printed as JSON is one value a message, and lines of such values a datagram.
use Rattle.std.proofs.Common.{◌≡◌, ℕ, zero, suc, ◌+◌, ◌-◌, ◌≤◌, Bool, true, false, not}
use Rattle.std.proofs.Common.{List, [], ◌∷◌, ◌++◌, codes, length, take, refl, sym, ap, subst}
use Rattle.std.proofs.Common.{◌∙◌, append_assoc, append-nil, arith, Option, Some, None, Result, Ok}
use Rattle.std.proofs.Common.{Err, eq-eqb}
use Rattle.std.specs.Prelude.{ℤ, ◌==◌, ◌||◌, nat_lt, unwrap_or}
use Rattle.std.specs.Fmt.{decimal, digits, signed_decimal}
use Rattle.std.specs.List.{list_all}
use Rattle.std.proofs.lemmas.Bool.{cond_both, ne_eqb}
use Rattle.bitflags.specs.Sets.{Row}
use Rattle.neli_attr.specs.AttrType.{AttrType}
use Rattle.neli_errno.specs.Errnos.{Row as ErrnoRow}
use Rattle.neli_lent.specs.Messages.{Lent, messages_in}
use Rattle.neli_lent.specs.Walks.{items_of}
use Rattle.neli_tables_walk.specs.declared.generic.GenericHeader.{GenericHeader}
use Rattle.neli_tables_walk.specs.declared.head.Head.{Head}
use Rattle.neli_tables_walk.specs.Bodies.{BodySeen, answer_in, body_context, body_in, body_shape}
use Rattle.neli_tables_walk.specs.Bodies.{is_answer}
use Rattle.neli_tables.specs.declared.tables.Tables.{Tables}
use Rattle.neli_tables_walk.specs.declared.item.Step.{Step}
use Rattle.neli_tables_walk.specs.declared.shape.Nest.{Nest}
use Rattle.neli_tables_walk.specs.declared.shape.Shape.{Shape}
use Rattle.neli_tables_walk.specs.declared.shape.Shape.TheVariants as shape
use Rattle.neli_tables_walk.specs.Shapes.{ContextSeen}
use Rattle.neli_tables_walk.specs.Visited.{Visited, visited}
use Rattle.neli_tables_walk.specs.Walks.{Said, Seen, walk_items}
use Rattle.neli_tables_walk.specs.declared.breach.Breach.{Breach}
use Rattle.neli_tables_walk.specs.declared.breach.Breach.TheVariants.{Shorter}
use Rattle.neli_tables_walk.specs.Breaches.{breach_text}
use Rattle.neli_tables_walk.specs.Fields.{fields_json}
use Rattle.neli_tables_walk.specs.Hex.{bytes_json, hex_text}
use Rattle.neli_tables_walk.specs.Json.{AreElements, AreMembers, AreSoManyLines, IsChars, IsJson, IsLine}
use Rattle.neli_tables_walk.specs.Json.{both, is_plain, members, object, plain, string, truth}
use Rattle.neli_tables_walk.specs.Json.{integer}
use Rattle.neli_tables_walk.specs.Names.{line_name, name_json, name_text}
use Rattle.neli_tables_walk.specs.Quoted.{quoted}
use Rattle.neli_tables_walk.specs.Values.{payload_breach, payload_json}
use Rattle.neli_tables_walk.specs.laws.Parts.{FirstElements, Turns, array_of, comma, first_elements_more}
use Rattle.neli_tables_walk.specs.laws.Parts.{named, natural, part, plain_string, turns_then}
use Rattle.neli_tables_walk.specs.laws.Strings.{digits-plain, plain-append, quoted-string}
use Rattle.neli_tables_walk.specs.laws.Values.{breach-plain, bytes_json-json, fields_json-json}
use Rattle.neli_tables_walk.specs.laws.Values.{hex-plain, name_json-json, name_text-chars}
use Rattle.neli_tables_walk.specs.laws.Values.{payload_json-json}
use Rattle.neli_wire.specs.declared.errors.DeError.{DeError}
use Rattle.neli_wire.specs.declared.errors.DeError.TheVariants as de
use Rattle.neli_print.specs.declared.flags.FlagForm.TheVariants.{Strings}
use Rattle.neli_print.specs.declared.flags.Left.{Left}
use Rattle.neli_print.specs.declared.head.Header.{Header}
use Rattle.neli_print.specs.declared.item.Open.{Open}
use Rattle.neli_print.specs.Answers.{PartsSeen, answer_parts}
use Rattle.neli_print.specs.Bodies.{body_members, bytes_member, generic_members, known_members}
use Rattle.neli_print.specs.Bodies.{members_with, payload_member, reserved, row_members}
use Rattle.neli_print.specs.Bodies.{row_members_by}
use Rattle.neli_print.specs.Faults.{fault_text}
use Rattle.neli_print.specs.Flags.{after_flag, all_left, left_without, flag_text, flags_from}
use Rattle.neli_print.specs.Flags.{is_named, mark, rest_text}
use Rattle.neli_print.specs.Heads.{header_flags, header_members, header_of, rows_of}
use Rattle.neli_print.specs.Items.{after_item, after_visit, depth_in, has_items, opened, opens_list}
use Rattle.neli_print.specs.ItemsJson.{breach_member, content_json, element_with}
use Rattle.neli_print.specs.ItemsJson.{item_json, items_json, label_json, left_json, object_json}
use Rattle.neli_print.specs.ItemsJson.{visit_json}
use Rattle.neli_print.specs.Lists.{body_open, list_member}
use Rattle.neli_print.specs.Messages.{content_members, datagram_json, fault_json, json_from}
use Rattle.neli_print.specs.Messages.{message_json, place_behind}
use Rattle.neli_print.specs.Names.{Lines, name_member, row_name, structure_members}
use Rattle.neli_print.specs.Pieces.{repeated, when}
use Rattle.neli_print.specs.Rests.{rest_member, rest_of}
use Rattle.neli_tables_walk.specs.Values.{struct_in}
use Rattle.neli_print.specs.Replies.{attributes_members, code_in, code_members, echo_members}
use Rattle.neli_print.specs.Replies.{errno_in, error_members, message_name, parts_members}
use Rattle.neli_print.specs.Replies.{reply_members, request_member}
use Rattle.neli_print.specs.laws.Open.{IsElement, IsOpen, IsPlace, after_ends, ends, list_begin}
use Rattle.neli_print.specs.laws.Open.{list_end, nest_begin, object_begin, object_end, object_more}
use Rattle.neli_print.specs.laws.Open.{place_begin, place_end, turns_none}

-- ---- members that follow others

-- members go on
abbrev pub More : List ℕ → Type 0
More = Turns AreMembers AreMembers

more_then : (t u : List ℕ) → More t → More u → More (t ++ u)
more_then t u = turns_then AreMembers AreMembers AreMembers t u

no_more : More []
no_more = turns_none AreMembers

when-more : (holds : Bool) (name value : List ℕ) → list_all is_plain name ≡ true → IsJson value
    → More (when holds (codes ",\"" ++ (name ++ (codes "\":" ++ value))))
when-more true name value is json = part name value is json
when-more false name value is json = no_more

name-more : (name : Option (List ℕ)) → More (name_member name)
name-more (Some name) = part (codes "name") (name_json name) refl (name_json-json name)
name-more None = no_more

structure-more : (table : Lines) (place : Option ℕ) (bytes : List ℕ)
    → More (structure_members table place bytes)
structure-more table (Some place) bytes =
    let name = name_json (line_name table place) in
    let fields = fields_json table place bytes in
    more_then (codes ",\"structure\":" ++ name) (codes ",\"fields\":" ++ fields)
    (part (codes "structure") name refl (name_json-json (line_name table place)))
    (part (codes "fields") fields refl (fields_json-json table place bytes))
structure-more table None bytes = no_more

-- bytes behind what is known
rest-more : (bytes : List ℕ) → More (rest_member bytes)
rest-more [] = no_more
rest-more (b ∷ bytes) =
    part (codes "rest") (codes "\"" ++ (hex_text (b ∷ bytes) ++ codes "\"")) refl
    (plain_string (hex_text (b ∷ bytes)) (hex-plain (b ∷ bytes)))

-- ---- an attribute

label-members : (table : Lines) (step : Option Step) (kind : AttrType ℕ)
    → AreMembers (label_json table step kind)
label-members table step kind =
    more_then (name_member (row_name table step)) _ (name-more (row_name table step))
    (more_then (when kind.nla_nested (codes ",\"nested\":true")) _
    (when-more kind.nla_nested (codes "nested") (codes "true") refl truth)
    (when-more kind.nla_network_order (codes "net_byteorder") (codes "true") refl truth))
    (codes "\"number\":" ++ decimal kind.nla_type)
    (named (codes "number") (decimal kind.nla_type) refl (natural kind.nla_type))

breach-more : (broken : Option Breach) → More (breach_member broken)
breach-more (Some b) =
    part (codes "broken") (codes "\"" ++ (breach_text b ++ codes "\"")) refl
    (plain_string (breach_text b) (breach-plain b))
breach-more None = no_more

-- a value, and the end of its attribute
ended : (n : ℕ) (before value : List ℕ) → More before → IsJson value
    → Turns (IsElement n) (IsOpen n false) (before ++ (codes ",\"value\":" ++ (value ++ codes "}")))
ended n before value more json =
    turns_then (IsElement n) (IsElement n) (IsOpen n false) before _ (object_more n before more)
    (turns_then (IsElement n) (IsElement n) (IsOpen n false) (codes ",\"value\":" ++ value)
    (codes "}")
    (object_more n _ (part (codes "value") value refl json)) (object_end n))

-- the lists that are open after an attribute that has a list, or has none
abbrev pub IsOpenAfter : ℕ → Bool → List ℕ → Type 0
IsOpenAfter n true = IsOpen (n + 1) true
IsOpenAfter n false = IsOpen n false

begun : (n : ℕ) (name : List ℕ) → list_all is_plain name ≡ true
    → Turns (IsElement n) (IsOpen (n + 1) true) (codes ",\"" ++ (name ++ codes "\":["))
begun n name is before element =
    let same : suc n ≡ n + 1 = omega arith in
    subst (λ (k : ℕ). IsOpen k true (before ++ (codes ",\"" ++ (name ++ codes "\":[")))) same
    (nest_begin n name is before element)

content-turns : (n : ℕ) (table : Lines) (s : Shape) (payload : List ℕ)
    → Turns (IsElement n) (IsOpenAfter n (has_items s)) (content_json table s payload)
content-turns n table (shape.Row place) payload =
    turns_then (IsElement n) (IsElement n) (IsOpen n false) _ _
    (object_more n _ (breach-more (payload_breach table place payload)))
    (turns_then (IsElement n) (IsElement n) (IsOpen n false)
    (codes ",\"value\":" ++ payload_json table place payload) _
    (object_more n _ (part (codes "value") _ refl (payload_json-json table place payload)))
    (turns_then (IsElement n) (IsElement n) (IsOpen n false) _ (codes "}")
    (object_more n _ (rest-more (rest_of table place payload))) (object_end n)))
content-turns n table (shape.Nest nest) payload =
    turns_then (IsElement n) (IsElement n) (IsOpen (n + 1) true) _ _
    (object_more n _ (structure-more table nest.after (take nest.header payload)))
    (begun n (codes "attributes") refl)
content-turns n table (shape.Hops nest) payload = begun n (codes "structures") refl
content-turns n table shape.Bytes payload = ended n _ _ (breach-more None) (bytes_json-json payload)
content-turns n table (shape.Short nest) payload =
    ended n _ _ (breach-more (Some (Shorter nest.header))) (bytes_json-json payload)
content-turns n table (shape.Deep nest) payload =
    ended n _ _ (part (codes "broken") (codes "\"nested too deep\"") refl
    (plain_string (codes "nested too deep") refl)) (bytes_json-json payload)

element-turns : (n : ℕ) (table : Lines) (step : Option Step) (kind : Option (AttrType ℕ))
    (payload : List ℕ) (s : Shape)
    → Turns (IsPlace n) (IsOpenAfter n (has_items s))
    (element_with table step kind payload s)
element-turns n table step (Some kind) payload s =
    turns_then (IsPlace n) (IsElement n) (IsOpenAfter n (has_items s)) _ _
    (object_begin n _ (label-members table step kind)) (content-turns n table s payload)
element-turns n table step None payload s =
    turns_then (IsPlace n) (IsElement n) (IsOpenAfter n (has_items s)) (codes "{\"length\":" ++ _) _
    (object_begin n _ (named (codes "length") (decimal (length payload)) refl
    (natural (length payload))))
    (content-turns n table s payload)

-- ---- what is left of a list, and faults

-- an object with members so far
abbrev pub IsObjectBegun : List ℕ → Type 0
IsObjectBegun text = (inner : List ℕ) × AreMembers inner × (text ≡ codes "{" ++ inner)

begun-more : (text : List ℕ) → More text → Turns IsObjectBegun IsObjectBegun text
begun-more text more before is = (is.0 ++ text, more is.0 is.1, ap (λ (l : List ℕ). l ++ text) is.2)

begun-end : Turns IsObjectBegun IsJson (codes "}")
begun-end before is =
    subst IsJson (sym (ap (λ (l : List ℕ). l ++ codes "}") is.2)) (object is.0 is.1)

-- two members of an object
two-members : (first second : List ℕ) → AreMembers first → More second
    → IsJson ((codes "{" ++ first) ++ (second ++ codes "}"))
two-members first second some more =
    turns_then IsObjectBegun IsObjectBegun IsJson second (codes "}") (begun-more second more)
    begun-end
    (codes "{" ++ first) (first, some, refl)

fault-plain : (e : DeError) → list_all is_plain (fault_text e) ≡ true
fault-plain (de.InvalidInput n) =
    plain-append (codes "a wrong length, ") (decimal n) refl (digits-plain 10 n)
fault-plain (de.Io kind) = refl
fault-plain de.Memory = refl
fault-plain (de.Msg text) = refl
fault-plain (de.Utf8 error) = refl

fault-members : (e : DeError) → AreMembers (codes "\"fault\":\"" ++ (fault_text e ++ codes "\""))
fault-members e =
    named (codes "fault") (codes "\"" ++ (fault_text e ++ codes "\"")) refl
    (plain_string (fault_text e) (fault-plain e))

left-json : (bytes : List ℕ) (e : DeError) → IsJson (left_json bytes e)
left-json bytes e =
    let hex = hex_text bytes in
    let rest = codes ",\"rest\":\"" ++ (hex ++ codes "\"") in
    subst (λ (l : List ℕ). IsJson (codes "{\"fault\":\"" ++ l)) (
    append_assoc (fault_text e) (codes "\"") (rest ++ codes "}")
    ∙ ap (λ (l : List ℕ). fault_text e ++ (codes "\",\"rest\":\"" ++ l))
    (append_assoc hex (codes "\"") (codes "}")))
    (two-members _ rest (fault-members e)
    (part (codes "rest") (codes "\"" ++ (hex ++ codes "\"")) refl
    (plain_string hex (hex-plain bytes))))

-- ---- items

object-turns : (n : ℕ) (table : Lines) (step : Option Step)
    (content : Result Said (List ℕ × DeError))
    → Turns (IsPlace n) (IsOpenAfter n (opens_list content)) (object_json table step content)
object-turns n table step (Ok said) = element-turns n table step said.0 said.1 said.2
object-turns n table step (Err left) =
    place_end n (left_json left.0 left.1) (left-json left.0 left.1)

-- so many lists are open
abbrev pub IsOpenAs : Open → List ℕ → Type 0
IsOpenAs o = IsOpen o.lists o.is_first

opened-after : (n : ℕ) (opens : Bool) (before : List ℕ) → IsOpenAfter n opens before
    → IsOpenAs (opened n opens) before
opened-after n true before is = is
opened-after n false before is = is

-- the comma is there unless nothing is in the list
comma-same : (first : Bool) (k d n : ℕ) → n ≡ d + k
    → when (not first || not (d == n)) (codes ",") ≡ comma (after_ends k first)
comma-same true zero d n e = rw (eq-eqb d n (omega (arith, e))) refl
comma-same true (suc k) d n e = rw (ne_eqb d n (λ same. omega (arith, e, same))) refl
comma-same false zero d n e = refl
comma-same false (suc k) d n e = refl

visit-at : (table : Lines) (o : Open) (v : Visited) (d : ℕ) → 1 ≤ d → d ≤ o.lists
    → Turns (IsOpenAs o) (IsOpenAs (opened d (opens_list v.2)))
    (repeated (codes "]}") (o.lists - d)
    ++ (when (not o.is_first || not (d == o.lists)) (codes ",") ++ object_json table v.1 v.2))
visit-at table o v zero some few before is = absurd (omega (arith, some))
visit-at table o v (suc m) some few before is =
    let n = o.lists in
    let k = n - suc m in
    let first = o.is_first in
    let all : n ≡ suc m + k = omega (arith, few) in
    let closed = before ++ repeated (codes "]}") k in
    let are : IsOpen (suc m) (after_ends k first) closed
    = ends k m first before (subst (λ (j : ℕ). IsOpen j first before) all is) in
    let mark = when (not first || not (suc m == n)) (codes ",") in
    let placed : IsPlace (suc m) (closed ++ mark)
    = subst (λ (l : List ℕ). IsPlace (suc m) (closed ++ l)) (sym (comma-same first k (suc m) n all))
    (place_begin (suc m) (after_ends k first) closed are) in
    let object = object_json table v.1 v.2 in
    let done = object-turns (suc m) table v.1 v.2 (closed ++ mark) placed in
    subst (IsOpenAs (opened (suc m) (opens_list v.2)))
    (append_assoc closed mark object ∙ append_assoc before (repeated (codes "]}") k)
    (mark ++ object))
    (opened-after (suc m) (opens_list v.2) ((closed ++ mark) ++ object) done)

visit-turns : (table : Lines) (o : Open) (v : Visited) → 1 ≤ o.lists
    → Turns (IsOpenAs o) (IsOpenAs (after_visit o v)) (visit_json table o v)
visit-turns table o v some =
    visit-at table o v (depth_in o v.0) (omega arith) (omega (arith, some))

depth-some : (o : Open) (v : Visited) → 1 ≤ (after_visit o v).lists
depth-some o v = by (opens_list v.2)
  where
    by : (opens : Bool) → 1 ≤ (opened (depth_in o v.0) opens).lists
    by true = omega arith
    by false = omega arith

items-turns : (table : Lines) (items : List Seen) (o : Open) → 1 ≤ o.lists
    → Turns (IsOpenAs o) AreMembers (items_json table o items)
items-turns table [] o some before is =
    let n = o.lists in
    let all : n ≡ suc 0 + (n - 1) = omega (arith, some) in
    turns_then (IsOpen (suc 0 + (n - 1)) o.is_first) (IsOpen 1 (after_ends (n - 1) o.is_first))
    AreMembers
    (repeated (codes "]}") (n - 1)) (codes "]") (ends (n - 1) 0 o.is_first)
    (list_end (after_ends (n - 1) o.is_first)) before
    (subst (λ (j : ℕ). IsOpen j o.is_first before) all is)
items-turns table (item ∷ items) o some before is =
    turns_then (IsOpenAs o) (IsOpenAs (after_item o item)) AreMembers
    (item_json table o item) (items_json table (after_item o item) items)
    (visit-turns table o (visited item) some)
    (items-turns table items (after_item o item) (depth-some o (visited item))) before is

list-more : (context : ContextSeen) (nest : Nest) (bytes : List ℕ)
    → More (list_member context nest bytes)
list-more context nest bytes =
    turns_then AreMembers (IsOpen 1 true) AreMembers (codes ",\"attributes\":[") _ list_begin
    (items-turns context.0 (walk_items context nest bytes) body_open (omega arith))

-- ---- bodies

reserved-more : (number : ℕ) → More (reserved (codes ",\"reserved\":") number)
reserved-more number =
    cond_both (number == 0) [] (codes ",\"reserved\":" ++ decimal number) More (λ e. no_more)
    (λ e. part (codes "reserved") (decimal number) refl (natural number))

generic-more : (generic : Option GenericHeader) → More (generic_members generic)
generic-more (Some h) =
    more_then (codes ",\"command\":" ++ decimal h.command) _
    (part (codes "command") (decimal h.command) refl (natural h.command))
    (more_then (codes ",\"version\":" ++ decimal h.version) _
    (part (codes "version") (decimal h.version) refl (natural h.version))
    (reserved-more h.reserved))
generic-more None = no_more

bytes-more : (bytes : List ℕ) → More (bytes_member bytes)
bytes-more [] = no_more
bytes-more (b ∷ bytes) =
    part (codes "payload") (bytes_json (b ∷ bytes)) refl (bytes_json-json (b ∷ bytes))

payload-more : (table : Lines) (place : ℕ) (bytes : List ℕ)
    → More (payload_member table place bytes)
payload-more table place [] = no_more
payload-more table place (b ∷ bytes) =
    part (codes "payload") (payload_json table place (b ∷ bytes)) refl
    (payload_json-json table place (b ∷ bytes))

row-more : (table : Lines) (place : ℕ) (bytes : List ℕ) → More (row_members table place bytes)
row-more table place bytes = by (struct_in table place)
  where
    by : (of : Option ℕ) → More (row_members_by of table place bytes)
    by (Some of) =
        more_then (structure_members table (Some of) bytes) _ (structure-more table (Some of) bytes)
        (rest-more (rest_of table place bytes))
    by None = payload-more table place bytes

known-more : (context : ContextSeen) (s : Shape) (bytes : List ℕ)
    → More (known_members context s bytes)
known-more context (shape.Nest nest) bytes =
    more_then (structure_members context.0 nest.after (take nest.header bytes)) _
    (structure-more context.0 nest.after (take nest.header bytes)) (list-more context nest bytes)
known-more context (shape.Short nest) bytes = structure-more context.0 nest.after bytes
known-more context (shape.Row place) bytes = row-more context.0 place bytes
known-more context (shape.Hops nest) bytes = bytes-more bytes
known-more context shape.Bytes bytes = bytes-more bytes
known-more context (shape.Deep nest) bytes = bytes-more bytes

body-more : (body : BodySeen) → More (body_members body)
body-more body =
    more_then (generic_members body.2) _ (generic-more body.2) (by (body_context body))
  where
    by : (context : Option ContextSeen) → More (members_with context (body_shape body) body.3)
    by (Some context) = known-more context (body_shape body) body.3
    by None = bytes-more body.3

-- ---- the header

-- strings or none
abbrev pub AreFlags : List ℕ → Type 0
AreFlags text = (first : Bool) × FirstElements first text

mark-comma : (first : Bool) (t : List ℕ)
    → mark Strings first ++ t ≡ comma first ++ (codes "\"" ++ t)
mark-comma true t = refl
mark-comma false t = refl

-- a string follows others
flag-more : (first : Bool) (before text : List ℕ) → FirstElements first before → IsChars text
    → FirstElements false (before ++ (mark Strings first ++ (text ++ codes "\"")))
flag-more first before text some chars =
    subst (λ (l : List ℕ). AreElements (before ++ l)) (sym (mark-comma first (text ++ codes "\"")))
    (first_elements_more first before (codes "\"" ++ (text ++ codes "\"")) some (string text chars))

rest-flags : (left : Left) (before : List ℕ) → FirstElements left.is_first before
    → AreFlags (before ++ rest_text Strings left)
rest-flags left before some =
    cond_both (left.bits == 0) [] _ (λ l. AreFlags (before ++ l))
    (λ e. (left.is_first, subst (FirstElements left.is_first) (sym (append-nil before)) some))
    (λ e. (
      false,
      flag-more left.is_first before (codes "0x" ++ digits 16 false left.bits) some
          (plain _ (plain-append (codes "0x") (digits 16 false left.bits) refl
          (digits-plain 16 left.bits))),
    ))

-- a row is printed, or passed
flag-cases :
    (set : ℕ) (row : Row) (rows : List Row) (left : Left) (before : List ℕ) (named : Bool)
    → is_named row set left.bits ≡ named
    → AreFlags ((before ++ (mark Strings left.is_first
    ++ (codes "NLM_F_" ++ (name_text row.0 ++ codes "\""))))
    ++ flags_from Strings set (left_without row left) rows)
    → AreFlags ((before ++ []) ++ flags_from Strings set left rows)
    → AreFlags ((before ++ flag_text Strings set left row)
    ++ flags_from Strings set (after_flag row set left) rows)
flag-cases set row rows left before true e taken passed = rw e taken
flag-cases set row rows left before false e taken passed = rw e passed

flags-are : (set : ℕ) (rows : List Row) (left : Left) (before : List ℕ)
    → FirstElements left.is_first before
    → AreFlags (before ++ flags_from Strings set left rows)
flags-are set [] left before some = rest-flags left before some
flags-are set (row ∷ rows) left before some =
    let name : IsChars (codes "NLM_F_" ++ name_text row.0) =
    both (codes "NLM_F_") (name_text row.0) (plain (codes "NLM_F_") refl) (name_text-chars row.0) in
    subst AreFlags (append_assoc before (flag_text Strings set left row) _)
    (flag-cases set row rows left before (is_named row set left.bits) refl
    (flags-are set rows (left_without row left) _
    (flag-more left.is_first before (codes "NLM_F_" ++ name_text row.0) some name))
    (flags-are set rows left (before ++ [])
    (subst (FirstElements left.is_first) (sym (append-nil before)) some)))

flags-json : (head : Head) → IsJson (codes "[" ++ (header_flags Strings head ++ codes "]"))
flags-json head =
    let are = flags-are head.flags.0 (rows_of head) (all_left head.flags.0) [] refl in
    array_of are.0 (header_flags Strings head) are.1

header-members : (h : Header) (name : Option (List ℕ)) → AreMembers (header_members h name)
header-members h name =
    let flags = header_flags Strings h.head in
    let last =
    (codes ",\"seq\":" ++ decimal h.sequence) ++ (codes ",\"port\":" ++ decimal h.port) in
    let first = codes "\"type\":" ++ decimal h.head.message_type in
    let middle = codes ",\"length\":" ++ decimal h.length in
    let all = more_then (name_member name) _ (name-more name)
    (more_then middle _ (part (codes "length") (decimal h.length) refl (natural h.length))
    (more_then (codes ",\"flags\":[" ++ (flags ++ codes "]")) last
    (part (codes "flags") (codes "[" ++ (flags ++ codes "]")) refl (flags-json h.head))
    (more_then (codes ",\"seq\":" ++ decimal h.sequence) (codes ",\"port\":" ++ decimal h.port)
    (part (codes "seq") (decimal h.sequence) refl (natural h.sequence))
    (part (codes "port") (decimal h.port) refl (natural h.port)))))
    first (named (codes "type") (decimal h.head.message_type) refl (natural h.head.message_type)) in
    subst (λ (l : List ℕ). AreMembers (first
    ++ (name_member name ++ (middle ++ (codes ",\"flags\":[" ++ l)))))
    (append_assoc flags (codes "]") last) all

-- ---- answers

errno-more : (errno : Option ErrnoRow) → More (error_members errno)
errno-more (Some row) =
    more_then (codes ",\"error\":" ++ quoted row.1) (codes ",\"meaning\":" ++ quoted row.2)
    (part (codes "error") (quoted row.1) refl (quoted-string row.1))
    (part (codes "meaning") (quoted row.2) refl (quoted-string row.2))
errno-more None = no_more

code-more : (code : ℤ) → More (code_members code)
code-more code =
    more_then (codes ",\"code\":" ++ signed_decimal code) _
    (part (codes "code") (signed_decimal code) refl (integer code)) (errno-more (errno_in code))

echo-more : (tables : Tables) (head : Head) (body : Option (List ℕ))
    → More (echo_members tables head body)
echo-more tables head (Some body) = body-more (body_in tables head body)
echo-more tables head None = no_more

request-more : (tables : Tables) (request : Option Header) (body : Option (List ℕ))
    → More (request_member tables request body)
request-more tables (Some header) body =
    let name = message_name tables header.head (unwrap_or body []) in
    let members = header_members header name in
    let echo = echo_members tables header.head body in
    let inner = echo-more tables header.head body members (header-members header name) in
    subst (λ (l : List ℕ). More (codes ",\"request\":{" ++ l))
    (append_assoc members echo (codes "}"))
    (part (codes "request") (codes "{" ++ ((members ++ echo) ++ codes "}")) refl
    (object (members ++ echo) inner))
request-more tables None body = no_more

attributes-more : (tables : Tables) (head : Head) (attributes : Option (List ℕ))
    → More (attributes_members tables head attributes)
attributes-more tables head (Some attributes) = body-more (answer_in tables head attributes)
attributes-more tables head None = no_more

parts-more : (tables : Tables) (head : Head) (parts : PartsSeen)
    → More (parts_members tables head parts)
parts-more tables head parts =
    more_then (request_member tables parts.0 parts.1) _ (request-more tables parts.0 parts.1)
    (more_then (attributes_members tables head parts.2) (rest_member parts.3)
    (attributes-more tables head parts.2) (rest-more parts.3))

reply-more : (tables : Tables) (head : Head) (payload : List ℕ)
    → More (reply_members tables head payload)
reply-more tables head payload =
    cond_both (nat_lt (length payload) 4) _ _ More (λ e. bytes-more payload)
    (λ e. more_then (code_members (code_in payload)) _ (code-more (code_in payload))
    (parts-more tables head (answer_parts head payload)))

-- ---- messages

content-more : (tables : Tables) (head : Head) (payload : List ℕ)
    → More (content_members tables head payload)
content-more tables head payload =
    cond_both (is_answer tables head) _ _ More (λ e. reply-more tables head payload)
    (λ e. body-more (body_in tables head payload))

-- a message is one value of JSON, whatever the tables and the bytes are
pub message_json-json : (tables : Tables) (header : Header) (payload : List ℕ)
    → IsJson (message_json tables header payload)
message_json-json tables header payload =
    let name = message_name tables header.head payload in
    let first = codes "\"protocol\":" ++ decimal header.head.protocol in
    turns_then IsObjectBegun IsObjectBegun IsJson (codes "," ++ header_members header name) _
    (begun-more _ (λ before some. members before _ some (header-members header name)))
    (turns_then IsObjectBegun IsObjectBegun IsJson (content_members tables header.head payload)
    (codes "}")
    (begun-more _ (content-more tables header.head payload)) begun-end)
    (codes "{" ++ first) (
      first,
      named (codes "protocol") (decimal header.head.protocol) refl (natural header.head.protocol),
      refl,
    )

-- ---- datagrams

fault_json-line : (place : ℕ) (e : DeError) → IsLine (fault_json place e)
fault_json-line place e =
    let fault = fault_text e in
    let at = codes ",\"at\":" ++ decimal place in
    let value = (codes "{\"fault\":\"" ++ (fault ++ codes "\"")) ++ (at ++ codes "}") in (
      value,
      two-members _ at (fault-members e) (part (codes "at") (decimal place) refl (natural place)),
      sym (ap (λ (l : List ℕ). (codes "{\"fault\":\"" ++ l) ++ codes "\n")
          (append_assoc fault (codes "\"") (at ++ codes "}"))
          ∙ ap (λ (l : List ℕ). codes "{\"fault\":\"" ++ l)
          (append_assoc fault (codes "\"" ++ (at ++ codes "}")) (codes "\n")
          ∙ ap (λ (l : List ℕ). fault ++ (codes "\",\"at\":" ++ l))
          (append_assoc (decimal place) (codes "}") (codes "\n")))),
    )

lines-are : (tables : Tables) (protocol : ℕ) (messages : List (Lent ℕ)) (fault : Option DeError)
    (place : ℕ)
    → AreSoManyLines (length (items_of (messages, fault)))
    (json_from tables protocol place (items_of (messages, fault)))
lines-are tables protocol [] None place = refl
lines-are tables protocol [] (Some e) place =
    (fault_json place e, [], fault_json-line place e, refl, sym (append-nil (fault_json place e)))
lines-are tables protocol (m ∷ ms) fault place =
    let json = message_json tables (header_of protocol m.0) m.1 in (
      json ++ codes "\n",
      json_from tables protocol (place_behind place m) (items_of (ms, fault)),
      (json, message_json-json tables (header_of protocol m.0) m.1, refl),
      lines-are tables protocol ms fault (place_behind place m),
      sym (append_assoc json (codes "\n") _),
    )

-- a datagram is lines of JSON, as many as it has messages, and one more where a fault follows them
pub datagram_json-lines : (tables : Tables) (protocol : ℕ) (bytes : List ℕ)
    → AreSoManyLines (length (items_of (messages_in (λ n. n) bytes)))
    (datagram_json tables protocol bytes)
datagram_json-lines tables protocol bytes =
    let cut = messages_in (λ n. n) bytes in lines-are tables protocol cut.0 cut.1 0
