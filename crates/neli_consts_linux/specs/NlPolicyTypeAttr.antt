-- The numbers of `NlPolicyTypeAttr`.
use Rattle.std.specs.Prelude.{ℕ, Bool, true, false, List, [], ◌∷◌}
use Rattle.neli_wire.specs.Constants.{first_with}
use Rattle.neli_consts_linux.specs.declared.policies.NlPolicyTypeAttr.{NlPolicyTypeAttr}
use Rattle.neli_consts_linux.specs.declared.policies.NlPolicyTypeAttr.TheVariants.{Unspec, «Type», MinValueS}
use Rattle.neli_consts_linux.specs.declared.policies.NlPolicyTypeAttr.TheVariants.{MaxValueS, MinValueU, MaxValueU}
use Rattle.neli_consts_linux.specs.declared.policies.NlPolicyTypeAttr.TheVariants.{MinLength, MaxLength, PolicyIdx}
use Rattle.neli_consts_linux.specs.declared.policies.NlPolicyTypeAttr.TheVariants.{PolicyMaxtype, Bitfield32Mask, Pad}
use Rattle.neli_consts_linux.specs.declared.policies.NlPolicyTypeAttr.TheVariants.{Mask, UnrecognizedConst}

-- the number of each variant
abbrev pub nl_policy_type_attr_number : NlPolicyTypeAttr → ℕ
nl_policy_type_attr_number Unspec = 0
nl_policy_type_attr_number «Type» = 1
nl_policy_type_attr_number MinValueS = 2
nl_policy_type_attr_number MaxValueS = 3
nl_policy_type_attr_number MinValueU = 4
nl_policy_type_attr_number MaxValueU = 5
nl_policy_type_attr_number MinLength = 6
nl_policy_type_attr_number MaxLength = 7
nl_policy_type_attr_number PolicyIdx = 8
nl_policy_type_attr_number PolicyMaxtype = 9
nl_policy_type_attr_number Bitfield32Mask = 10
nl_policy_type_attr_number Pad = 11
nl_policy_type_attr_number Mask = 12
nl_policy_type_attr_number (UnrecognizedConst n) = n

-- the variants, in their order
abbrev pub nl_policy_type_attr_variants : List NlPolicyTypeAttr
nl_policy_type_attr_variants =
    Unspec ∷ «Type» ∷ MinValueS ∷ MaxValueS ∷ MinValueU ∷ MaxValueU ∷ MinLength ∷ MaxLength ∷
    PolicyIdx ∷ PolicyMaxtype ∷ Bitfield32Mask ∷ Pad ∷ Mask ∷ []

-- the first variant with a number, else the number without a name
abbrev pub nl_policy_type_attr_of : ℕ → NlPolicyTypeAttr
nl_policy_type_attr_of = first_with nl_policy_type_attr_number nl_policy_type_attr_variants UnrecognizedConst

-- whether a value is a number without a name
abbrev pub nl_policy_type_attr_is_unrecognized : NlPolicyTypeAttr → Bool
nl_policy_type_attr_is_unrecognized (UnrecognizedConst n) = true
nl_policy_type_attr_is_unrecognized v = false
