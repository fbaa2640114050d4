-- What an extended acknowledgement says beside its code (`NLMSGERR_ATTR_*` of `linux/netlink.h`).
use Rattle.std.specs.Prelude.{ℕ, false, true, List, [], ◌∷◌, ◌++◌, Option, Some, None, find, nat_eq, Ok, Err}
use Rattle.std.specs.Option.{option_map}
use Rattle.byteorder.specs.Endian.{little_bytes}
use Rattle.neli_wire.specs.Place.{Place}
use Rattle.neli_wire.specs.declared.errors.SerError.{SerError}
use Rattle.neli_wire.specs.Refusals.{IsRefusal, ser_ran_out}
use Rattle.neli_wire.specs.Writing.{Wire, ◌+++◌, wire_all}
use Rattle.neli_consts.specs.declared.nlmsg.NlmsgerrAttr.{NlmsgerrAttr}
use Rattle.neli_consts.specs.declared.nlmsg.NlmsgerrAttr.TheVariants.{Msg, Offset, Policy, UnrecognizedConst}
use Rattle.neli_consts.specs.NlmsgerrAttr.{nlmsgerr_attr_number}
use Rattle.neli_consts_linux.specs.declared.policies.NlPolicyTypeAttr.{NlPolicyTypeAttr}
use Rattle.neli_consts_linux.specs.NlPolicyTypeAttr.{nl_policy_type_attr_number}
use Rattle.neli_attr.specs.Attributes.{attribute_payload}
use Rattle.neli_attr.specs.Nlattr.{nlattr_wire, with_length}
use Rattle.neli_attr.specs.declared.nlattr.Nlattr.{Nlattr}
use Rattle.neli_reader.specs.Answers.{Attributes}
use Rattle.neli_short.specs.Made.{field}
use Rattle.neli_short.specs.declared.ext_ack_builder.ExtAckBuilder.{ExtAckBuilder}

-- NLMSGERR_ATTR_MISS_TYPE and NLMSGERR_ATTR_MISS_NEST, which have no variant
abbrev pub miss_type : NlmsgerrAttr
miss_type = UnrecognizedConst 5

abbrev pub miss_nest : NlmsgerrAttr
miss_nest = UnrecognizedConst 6

-- the payload of the first attribute of a kind
abbrev pub payload_in : NlmsgerrAttr → Attributes → Option (List ℕ)
payload_in kind attrs = option_map (λ a. a.nla_payload)
    (find (λ a. nat_eq (nlmsgerr_attr_number a.nla_type.nla_type) (nlmsgerr_attr_number kind)) attrs)

-- a walk from the first of these bytes on
abbrev pub from_start : List ℕ → Place
from_start bytes = record { before = []; rest = bytes }

-- ---- what a builder makes

-- the attribute of bytes that were given, if any were
abbrev pub given : NlmsgerrAttr → Option (List ℕ) → Attributes
given kind None = []
given kind (Some bytes) = with_length (field false kind) bytes ∷ []

-- a text with its zero; none where it was not given
abbrev pub text_bytes : Option (List ℕ) → Option (List ℕ)
text_bytes = option_map (λ text. text ++ 0 ∷ [])

-- a number of four bytes
abbrev pub number_bytes : Option ℕ → Option (List ℕ)
number_bytes = option_map (little_bytes 4)

-- the attributes of a policy, with their payloads as bytes
abbrev pub PolicyAttributes : Type 0
PolicyAttributes = List (Nlattr NlPolicyTypeAttr (List ℕ))

-- the wire bytes of a policy that was given, of which none is refused where there are none
abbrev pub policy_wire : Option PolicyAttributes → Wire
policy_wire None = Ok []
policy_wire (Some attrs) = wire_all (nlattr_wire nl_policy_type_attr_number (λ bytes. Ok bytes)) attrs

-- the nest of these wire bytes, which attributes with payloads of bytes always have
abbrev pub policy_of : Wire → Attributes
policy_of (Ok bytes) = with_length (field true Policy) bytes ∷ []
policy_of (Err e) = []

-- the nest of a policy, if one was given
abbrev pub given_policy : Option PolicyAttributes → Attributes
given_policy None = []
given_policy (Some attrs) = policy_of (policy_wire (Some attrs))

-- the attributes of what was given, in the order of their numbers
abbrev pub built_ext_ack : ExtAckBuilder → Attributes
built_ext_ack b =
    (((given Msg (text_bytes (option_map (λ t. t.now) b.text)) ++ given Offset (number_bytes b.offset))
    ++ given_policy b.policy) ++ given miss_type (number_bytes b.missing_type))
    ++ given miss_nest (number_bytes b.missing_nest)

-- the wire bytes of what was given, of which none is refused where there are none
abbrev pub given_wire : Option (List ℕ) → Wire
given_wire None = Ok []
given_wire (Some bytes) = Ok bytes

-- e is why nothing is built: the text leaves no room for a header, or then the policy does not; or memory ran out
abbrev pub RefusesBuilt : ExtAckBuilder → SerError → Type 0
RefusesBuilt b = IsRefusal ser_ran_out
    (attribute_payload (given_wire (text_bytes (option_map (λ t. t.now) b.text)))
    +++ attribute_payload (policy_wire b.policy)) (Unit {0})
