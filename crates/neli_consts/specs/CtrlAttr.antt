-- The numbers of `CtrlAttr`.
use Rattle.std.specs.Prelude.{ℕ, Bool, true, false, List, [], ◌∷◌}
use Rattle.neli_wire.specs.Constants.{first_with}
use Rattle.neli_consts.specs.declared.genl.CtrlAttr.{CtrlAttr}
use Rattle.neli_consts.specs.declared.genl.CtrlAttr.TheVariants.{Unspec, FamilyId, FamilyName, Version, Hdrsize}
use Rattle.neli_consts.specs.declared.genl.CtrlAttr.TheVariants.{Maxattr, Ops, McastGroups, UnrecognizedConst}

-- the number of each variant
abbrev pub ctrl_attr_number : CtrlAttr → ℕ
ctrl_attr_number Unspec = 0
ctrl_attr_number FamilyId = 1
ctrl_attr_number FamilyName = 2
ctrl_attr_number Version = 3
ctrl_attr_number Hdrsize = 4
ctrl_attr_number Maxattr = 5
ctrl_attr_number Ops = 6
ctrl_attr_number McastGroups = 7
ctrl_attr_number (UnrecognizedConst n) = n

-- the variants, in their order
abbrev pub ctrl_attr_variants : List CtrlAttr
ctrl_attr_variants =
    Unspec ∷ FamilyId ∷ FamilyName ∷ Version ∷ Hdrsize ∷ Maxattr ∷ Ops ∷ McastGroups ∷ []

-- the first variant with a number, else the number without a name
abbrev pub ctrl_attr_of : ℕ → CtrlAttr
ctrl_attr_of = first_with ctrl_attr_number ctrl_attr_variants UnrecognizedConst

-- whether a value is a number without a name
abbrev pub ctrl_attr_is_unrecognized : CtrlAttr → Bool
ctrl_attr_is_unrecognized (UnrecognizedConst n) = true
ctrl_attr_is_unrecognized v = false
