-- The attributes of a family and its multicast groups. Of two with one type the first counts.
use Rattle.std.specs.Prelude.{ℕ, ◌<◌, Bool, true, false, List, Option, Result, IsSomeAnd, Ok, find, length, option_map}
use Rattle.neli_wire.specs.declared.errors.DeError.{DeError}
use Rattle.neli_wire.specs.Frames.{frame_at}
use Rattle.neli_wire.specs.Reading.{◌>>=◌, number_at}
use Rattle.neli_wire.specs.Strings.{owned_text}
use Rattle.neli_consts.specs.CtrlAttrMcastGrp.{ctrl_attr_mcast_grp_of}
use Rattle.neli_consts.specs.Index.{index_of}
use Rattle.neli_consts.specs.declared.genl.CtrlAttr.{CtrlAttr}
use Rattle.neli_consts.specs.declared.genl.CtrlAttr.TheVariants.{FamilyId, FamilyName, McastGroups}
use Rattle.neli_consts.specs.declared.genl.CtrlAttrMcastGrp.{CtrlAttrMcastGrp}
use Rattle.neli_consts.specs.declared.genl.CtrlAttrMcastGrp.TheVariants.{Name, Id}
use Rattle.neli_consts.specs.declared.index.Index.{Index}
use Rattle.neli_attr.specs.AttrType.{AttrType}
use Rattle.neli_attr.specs.Attributes.{Attr, attribute, attributes_in}
use Rattle.neli_attr.specs.Lookup.{list_found, read_found}
use Rattle.neli_attr.specs.TypeField.{type_of}
use Rattle.neli_genl.specs.Genlmsghdr.{AttributesRead}

-- ---- whether an attribute's type is this

-- the number of the family
abbrev pub is_family_id : CtrlAttr → Bool
is_family_id FamilyId = true
is_family_id kind = false

-- its name
abbrev pub is_family_name : CtrlAttr → Bool
is_family_name FamilyName = true
is_family_name kind = false

-- its groups
abbrev pub is_mcast_groups : CtrlAttr → Bool
is_mcast_groups McastGroups = true
is_mcast_groups kind = false

-- the name of a group
abbrev pub is_name : CtrlAttrMcastGrp → Bool
is_name Name = true
is_name kind = false

-- its number
abbrev pub is_id : CtrlAttrMcastGrp → Bool
is_id Id = true
is_id kind = false

-- ---- payloads

-- the payload of the first attribute of a type
abbrev pub payload_where : {K : Type 0} → (K → Bool) → AttributesRead K → Option (List ℕ)
payload_where is attrs = option_map (λ a. a.1) (find (λ a. is a.0.kind.nla_type) attrs)

-- the number in the first n bytes of a payload, whatever follows
abbrev pub first_number : ℕ → List ℕ → Result ℕ DeError
first_number n payload = number_at n payload >>= λ p. Ok p.0

-- ---- a message of the controller

-- the number of its family, in two bytes
abbrev pub family_id : AttributesRead CtrlAttr → Result ℕ DeError
family_id attrs = read_found (payload_where is_family_id attrs) (first_number 2)

-- the name of its family
abbrev pub family_name : AttributesRead CtrlAttr → Result (List ℕ) DeError
family_name attrs = read_found (payload_where is_family_name attrs) owned_text

-- a group in its list: its place, and its bytes
abbrev pub Group : Type 0
Group = Attr (AttrType Index) (List ℕ)

-- the groups of its family
abbrev pub groups : AttributesRead CtrlAttr → Result (List Group) DeError
groups attrs =
    list_found (payload_where is_mcast_groups attrs)
    (frame_at (attribute (type_of index_of) (λ bytes. Ok bytes)))

-- ---- a group

-- its attributes
abbrev pub group_attrs : Group → Result (AttributesRead CtrlAttrMcastGrp) DeError
group_attrs group = attributes_in (type_of ctrl_attr_mcast_grp_of) group.1

-- its name
abbrev pub group_name : AttributesRead CtrlAttrMcastGrp → Result (List ℕ) DeError
group_name attrs = read_found (payload_where is_name attrs) owned_text

-- its number, in four bytes
abbrev pub group_id : AttributesRead CtrlAttrMcastGrp → Result ℕ DeError
group_id attrs = read_found (payload_where is_id attrs) (first_number 4)

-- ---- when reading these takes memory

-- there is a payload, and it has bytes
abbrev pub HasBytes : Option (List ℕ) → Type 0
HasBytes payload = IsSomeAnd payload (λ bytes. 0 < length bytes)

-- for the name of a family
abbrev pub family_name_takes_memory : AttributesRead CtrlAttr → Type 0
family_name_takes_memory attrs = HasBytes (payload_where is_family_name attrs)

-- for its groups
abbrev pub groups_take_memory : AttributesRead CtrlAttr → Type 0
groups_take_memory attrs = HasBytes (payload_where is_mcast_groups attrs)

-- for the attributes of a group
abbrev pub group_attrs_take_memory : Group → Type 0
group_attrs_take_memory group = 0 < length group.1

-- for the name of a group
abbrev pub group_name_takes_memory : AttributesRead CtrlAttrMcastGrp → Type 0
group_name_takes_memory attrs = HasBytes (payload_where is_name attrs)
