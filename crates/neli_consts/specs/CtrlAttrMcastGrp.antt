-- The numbers of `CtrlAttrMcastGrp`.
use Rattle.std.specs.Prelude.{ℕ, Bool, true, false, List, [], ◌∷◌}
use Rattle.neli_wire.specs.Constants.{first_with}
use Rattle.neli_consts.specs.declared.genl.CtrlAttrMcastGrp.{CtrlAttrMcastGrp}
use Rattle.neli_consts.specs.declared.genl.CtrlAttrMcastGrp.TheVariants.{Unspec, Name, Id, UnrecognizedConst}

-- the number of each variant
abbrev pub ctrl_attr_mcast_grp_number : CtrlAttrMcastGrp → ℕ
ctrl_attr_mcast_grp_number Unspec = 0
ctrl_attr_mcast_grp_number Name = 1
ctrl_attr_mcast_grp_number Id = 2
ctrl_attr_mcast_grp_number (UnrecognizedConst n) = n

-- the variants, in their order
abbrev pub ctrl_attr_mcast_grp_variants : List CtrlAttrMcastGrp
ctrl_attr_mcast_grp_variants =
    Unspec ∷ Name ∷ Id ∷ []

-- the first variant with a number, else the number without a name
abbrev pub ctrl_attr_mcast_grp_of : ℕ → CtrlAttrMcastGrp
ctrl_attr_mcast_grp_of = first_with ctrl_attr_mcast_grp_number ctrl_attr_mcast_grp_variants UnrecognizedConst

-- whether a value is a number without a name
abbrev pub ctrl_attr_mcast_grp_is_unrecognized : CtrlAttrMcastGrp → Bool
ctrl_attr_mcast_grp_is_unrecognized (UnrecognizedConst n) = true
ctrl_attr_mcast_grp_is_unrecognized v = false
