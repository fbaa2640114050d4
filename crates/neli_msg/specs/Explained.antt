-- An answer for a person: its code, the error's name and meaning, and the details in its attributes.
use Rattle.std.specs.Prelude.{ℕ, ℤ, pos, List, [], ◌++◌, codes, length}
use Rattle.std.specs.Prelude.{Option, Some, None, find, nat_eq, int_lt, unsigned_abs, if◌then◌else◌}
use Rattle.std.specs.Fmt.{decimal, signed_decimal}
use Rattle.std.specs.Option.{option_and_then, option_map}
use Rattle.std.specs.Result.{result_ok}
use Rattle.neli_errno.specs.Errnos.{Row, errno_of, errno_view, errno_text}
use Rattle.neli_wire.specs.Numbers.{little_number}
use Rattle.neli_wire.specs.Strings.{owned_text}
use Rattle.neli_consts.specs.declared.nlmsg.NlmsgerrAttr.{NlmsgerrAttr}
use Rattle.neli_consts.specs.declared.nlmsg.NlmsgerrAttr.TheVariants.{Msg, Offset}
use Rattle.neli_consts.specs.NlmsgerrAttr.{nlmsgerr_attr_number}
use Rattle.neli_msg.specs.Answers.{Attributes}
use Rattle.neli_msg.specs.declared.explained.Explained.{Explained}

-- ---- the parts of an answer

-- the error whose number is the negated code
abbrev pub errno_in : ℤ → Option Row
errno_in code = if int_lt code (pos 0) then errno_of (unsigned_abs code) else None

-- the payload of the first attribute of a kind
abbrev pub payload_in : NlmsgerrAttr → Attributes → Option (List ℕ)
payload_in kind attrs = option_map (λ a. a.nla_payload)
    (find (λ a. nat_eq (nlmsgerr_attr_number a.nla_type.nla_type) (nlmsgerr_attr_number kind)) attrs)

-- the text: all bytes but the last, which is a zero, if they are UTF-8
abbrev pub words_in : List ℕ → Option (List ℕ)
words_in payload = result_ok (owned_text payload)

-- the place in the request: a number of four bytes
abbrev pub place_in : List ℕ → Option ℕ
place_in payload = if nat_eq (length payload) 4 then Some (little_number 4 payload) else None

-- ---- printing

abbrev pub named_text : Option Row → List ℕ
named_text None = []
named_text (Some row) = codes " " ++ errno_text row

abbrev pub words_text : Option (List ℕ) → List ℕ
words_text None = []
words_text (Some words) = codes "; " ++ words

abbrev pub place_text : Option ℕ → List ℕ
place_text None = []
place_text (Some offset) = codes "; offset " ++ decimal offset

-- the text of these parts
abbrev pub parts_text : ℤ → Option Row → Option (List ℕ) → Option ℕ → List ℕ
parts_text code named words place = signed_decimal code ++ (named_text named ++ (words_text words ++ place_text place))

-- the text that an explained answer prints
abbrev pub explained_text : Explained → List ℕ
explained_text e = parts_text e.code (option_map errno_view e.errno) (option_map (λ t. t.now) e.words) e.place

-- an answer of this code and these attributes, explained
abbrev pub explanation : ℤ → Attributes → List ℕ
explanation code attrs = parts_text code (errno_in code) (option_and_then words_in (payload_in Msg attrs))
    (option_and_then place_in (payload_in Offset attrs))
