-- The numbers of `CtrlAttrPolicy`.
use Rattle.std.specs.Prelude.{ℕ, Bool, true, false, List, [], ◌∷◌}
use Rattle.neli_wire.specs.Constants.{first_with}
use Rattle.neli_consts_linux.specs.declared.controller.CtrlAttrPolicy.{CtrlAttrPolicy}
use Rattle.neli_consts_linux.specs.declared.controller.CtrlAttrPolicy.TheVariants.{Unspec, Do, Dump, UnrecognizedConst}

-- the number of each variant
abbrev pub ctrl_attr_policy_number : CtrlAttrPolicy → ℕ
ctrl_attr_policy_number Unspec = 0
ctrl_attr_policy_number Do = 1
ctrl_attr_policy_number Dump = 2
ctrl_attr_policy_number (UnrecognizedConst n) = n

-- the variants, in their order
abbrev pub ctrl_attr_policy_variants : List CtrlAttrPolicy
ctrl_attr_policy_variants =
    Unspec ∷ Do ∷ Dump ∷ []

-- the first variant with a number, else the number without a name
abbrev pub ctrl_attr_policy_of : ℕ → CtrlAttrPolicy
ctrl_attr_policy_of = first_with ctrl_attr_policy_number ctrl_attr_policy_variants UnrecognizedConst

-- whether a value is a number without a name
abbrev pub ctrl_attr_policy_is_unrecognized : CtrlAttrPolicy → Bool
ctrl_attr_policy_is_unrecognized (UnrecognizedConst n) = true
ctrl_attr_policy_is_unrecognized v = false
