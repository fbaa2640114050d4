-- Requests to the controller of generic netlink: for the family of a name, and for all families.
use Rattle.std.specs.Prelude.{◌≡◌, ℕ, ◌+◌, ◌≤◌, Bool, false, List, [], ◌∷◌, ◌++◌, codes, length, nat_lt, if◌then◌else◌}
use Rattle.std.specs.Prelude.{Option, Some, Result, Ok, Err}
use Rattle.neli_wire.specs.Numbers.{little_bytes}
use Rattle.neli_wire.specs.Writing.{zeros_for}
use Rattle.neli_consts.specs.CtrlAttr.{ctrl_attr_number}
use Rattle.neli_consts.specs.CtrlCmd.{ctrl_cmd_number}
use Rattle.neli_consts.specs.GenlId.{genl_id_number}
use Rattle.neli_consts.specs.declared.genl.CtrlAttr.{CtrlAttr}
use Rattle.neli_consts.specs.declared.genl.CtrlAttr.TheVariants.{FamilyName}
use Rattle.neli_consts.specs.declared.genl.CtrlCmd.{CtrlCmd}
use Rattle.neli_consts.specs.declared.genl.CtrlCmd.TheVariants.{Getfamily}
use Rattle.neli_consts.specs.declared.genl.GenlId.{GenlId}
use Rattle.neli_consts.specs.declared.genl.GenlId.TheVariants.{Ctrl}
use Rattle.neli_consts.specs.declared.nlm_f.NlmF.{NlmF}
use Rattle.neli_attr.specs.Nlattr.{with_length}
use Rattle.neli_attr.specs.declared.nlattr.Nlattr.{Nlattr}
use Rattle.neli_genl.specs.Genlmsghdr.{Attrs, genlmsghdr_size, genlmsghdr_wire}
use Rattle.neli_genl.specs.declared.genlmsghdr.Genlmsghdr.{Genlmsghdr}
use Rattle.neli_genl.specs.declared.no_user_header.NoUserHeader.{NoUserHeader}
use Rattle.neli_reader.specs.NlPayload.TheVariants as payload
use Rattle.neli_reader.specs.RouterError.{RouterError}
use Rattle.neli_reader.specs.RouterError.TheVariants as router
use Rattle.neli_deliveries.specs.Lists.{Opens, SameLists, SameListsBut}
use Rattle.neli_router.specs.declared.handle.HandleState.{HandleState}
use Rattle.neli_router.specs.declared.verdict.Heard.{Heard}
use Rattle.neli_router.specs.Sends.{asks, frame_or_refusal, number_after}
use Rattle.neli_router.specs.Verdicts.{begun}
use Rattle.neli_answers.specs.Answers.{answering_by_flags}

-- ---- what a request changes

-- a handle for the router's next number is open, of whose answer nothing is known yet, and the number is used up
abbrev pub Asks : {A : Type 0} → NlmF → HandleState → (number next : ℕ)
    → (before after : Option ℕ → Option (List A)) → (heard hears : Option ℕ → Option Heard) → Type 0
Asks flags handle number next before after heard hears =
    (handle ≡ asks number flags) × (next ≡ number_after number) × Opens number before after
    × (hears (Some number) ≡ Some (begun (answering_by_flags flags))) × SameListsBut (Some number) heard hears

-- one that is refused changes nothing
abbrev pub AsksNothing : {A : Type 0} → (number next : ℕ) → (before after : Option ℕ → Option (List A))
    → (heard hears : Option ℕ → Option Heard) → Type 0
AsksNothing number next before after heard hears =
    (next ≡ number) × SameLists before after × SameLists heard hears

-- ---- the contents

-- the body of such a request
abbrev pub Body : Type 0
Body = Genlmsghdr CtrlCmd CtrlAttr NoUserHeader

-- why it is not sent
abbrev pub Error : Type 0
Error = RouterError GenlId Body

-- the command Getfamily, version 2, and attributes
abbrev pub getfamily : Attrs CtrlAttr → Body
getfamily attrs = record { cmd = Getfamily; version = 2; reserved = 0; header = record {}; attrs = attrs }

-- the attribute that names a family: the name and a zero byte
abbrev pub name_attribute : List ℕ → Nlattr CtrlAttr (List ℕ)
name_attribute name =
    with_length (record { nla_nested = false; nla_network_order = false; nla_type = FamilyName }) (name ++ 0 ∷ [])

-- the request for the family with this name
abbrev pub family_request : List ℕ → Body
family_request name = getfamily (name_attribute name ∷ [])

-- the request for all families
abbrev pub families_request : Body
families_request = getfamily []

-- such a request as a router sends any other: its type is Ctrl
abbrev pub sent_to_controller : ℕ → ℕ → Bool → NlmF → Body → Result (List ℕ) Error
sent_to_controller port number in_use flags body =
    frame_or_refusal genl_id_number (genlmsghdr_wire ctrl_cmd_number ctrl_attr_number (λ _. Ok []))
    (genlmsghdr_size (λ _. 0))
    port number in_use Ctrl flags (payload.Payload body)

-- ---- as bytes

-- a message of type 16 with these flags: command 3, version 2, two zeros, and the bytes of attributes
abbrev pub getfamily_frame : ℕ → ℕ → ℕ → List ℕ → List ℕ
getfamily_frame flags port number attrs =
    little_bytes 4 (20 + length attrs) ++ little_bytes 2 16 ++ little_bytes 2 flags
    ++ little_bytes 4 number ++ little_bytes 4 port ++ 3 ∷ 2 ∷ 0 ∷ 0 ∷ attrs

-- the attribute without its padding: a length that counts all of these bytes, type 2, the name and a zero byte
abbrev pub name_text : List ℕ → List ℕ
name_text name = little_bytes 2 (5 + length name) ++ little_bytes 2 2 ++ (name ++ 0 ∷ [])

-- the attribute, with zeros up to a multiple of four
abbrev pub name_bytes : List ℕ → List ℕ
name_bytes name = name_text name ++ zeros_for (length (name_text name))

-- REQUEST (1) and ACK (4) are set
abbrev pub family_frame : ℕ → ℕ → List ℕ → List ℕ
family_frame port number name = getfamily_frame 5 port number (name_bytes name)

-- REQUEST (1) and DUMP (0x300) are set
abbrev pub families_frame : ℕ → ℕ → List ℕ
families_frame port number = getfamily_frame 769 port number []

-- ---- the sent bytes, or why nothing is sent

-- the frame; or the first cause that holds: the number is in use, the name is too long for an attribute
abbrev pub family_sent : ℕ → ℕ → Bool → List ℕ → Result (List ℕ) Error
family_sent port number in_use name =
    if in_use then Err (router.SeqInUse number)
    else (if nat_lt 65530 (length name) then Err (router.Msg (codes "Length does not fit its field"))
    else Ok (family_frame port number name))

-- the frame; or that the number is in use
abbrev pub families_sent : ℕ → ℕ → Bool → Result (List ℕ) Error
families_sent port number in_use = if in_use then Err (router.SeqInUse number) else Ok (families_frame port number)

-- memory is taken: neither the number nor the name is refused
abbrev pub FamilyTakesMemory : Bool → List ℕ → Type 0
FamilyTakesMemory in_use name = (in_use ≡ false) × (length name ≤ 65530)
