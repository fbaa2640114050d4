-- The numbers of `NetlinkAttributeType`.
use Rattle.std.specs.Prelude.{ℕ, Bool, true, false, List, [], ◌∷◌}
use Rattle.neli_wire.specs.Constants.{first_with}
use Rattle.neli_consts_linux.specs.declared.policies.NetlinkAttributeType.{NetlinkAttributeType}
use Rattle.neli_consts_linux.specs.declared.policies.NetlinkAttributeType.TheVariants.{Invalid, Flag, U8, U16, U32, U64}
use Rattle.neli_consts_linux.specs.declared.policies.NetlinkAttributeType.TheVariants.{S8, S16, S32, S64, Binary}
use Rattle.neli_consts_linux.specs.declared.policies.NetlinkAttributeType.TheVariants.{String, NulString, Nested}
use Rattle.neli_consts_linux.specs.declared.policies.NetlinkAttributeType.TheVariants.{NestedArray, Bitfield32, Sint}
use Rattle.neli_consts_linux.specs.declared.policies.NetlinkAttributeType.TheVariants.{Uint, UnrecognizedConst}

-- the number of each variant
abbrev pub netlink_attribute_type_number : NetlinkAttributeType → ℕ
netlink_attribute_type_number Invalid = 0
netlink_attribute_type_number Flag = 1
netlink_attribute_type_number U8 = 2
netlink_attribute_type_number U16 = 3
netlink_attribute_type_number U32 = 4
netlink_attribute_type_number U64 = 5
netlink_attribute_type_number S8 = 6
netlink_attribute_type_number S16 = 7
netlink_attribute_type_number S32 = 8
netlink_attribute_type_number S64 = 9
netlink_attribute_type_number Binary = 10
netlink_attribute_type_number String = 11
netlink_attribute_type_number NulString = 12
netlink_attribute_type_number Nested = 13
netlink_attribute_type_number NestedArray = 14
netlink_attribute_type_number Bitfield32 = 15
netlink_attribute_type_number Sint = 16
netlink_attribute_type_number Uint = 17
netlink_attribute_type_number (UnrecognizedConst n) = n

-- the variants, in their order
abbrev pub netlink_attribute_type_variants : List NetlinkAttributeType
netlink_attribute_type_variants =
    Invalid ∷ Flag ∷ U8 ∷ U16 ∷ U32 ∷ U64 ∷ S8 ∷ S16 ∷ S32 ∷ S64 ∷ Binary ∷ String ∷ NulString ∷
    Nested ∷ NestedArray ∷ Bitfield32 ∷ Sint ∷ Uint ∷ []

-- the first variant with a number, else the number without a name
abbrev pub netlink_attribute_type_of : ℕ → NetlinkAttributeType
netlink_attribute_type_of = first_with netlink_attribute_type_number netlink_attribute_type_variants UnrecognizedConst

-- whether a value is a number without a name
abbrev pub netlink_attribute_type_is_unrecognized : NetlinkAttributeType → Bool
netlink_attribute_type_is_unrecognized (UnrecognizedConst n) = true
netlink_attribute_type_is_unrecognized v = false
