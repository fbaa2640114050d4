-- The numbers of `CtrlCmd`.
use Rattle.std.specs.Prelude.{ℕ, Bool, true, false, List, [], ◌∷◌}
use Rattle.neli_wire.specs.Constants.{first_with}
use Rattle.neli_consts.specs.declared.genl.CtrlCmd.{CtrlCmd}
use Rattle.neli_consts.specs.declared.genl.CtrlCmd.TheVariants.{Unspec, Newfamily, Delfamily, Getfamily}
use Rattle.neli_consts.specs.declared.genl.CtrlCmd.TheVariants.{Newops, Delops, Getops, NewmcastGrp}
use Rattle.neli_consts.specs.declared.genl.CtrlCmd.TheVariants.{DelmcastGrp, GetmcastGrp, UnrecognizedConst}

-- the number of each variant
abbrev pub ctrl_cmd_number : CtrlCmd → ℕ
ctrl_cmd_number Unspec = 0
ctrl_cmd_number Newfamily = 1
ctrl_cmd_number Delfamily = 2
ctrl_cmd_number Getfamily = 3
ctrl_cmd_number Newops = 4
ctrl_cmd_number Delops = 5
ctrl_cmd_number Getops = 6
ctrl_cmd_number NewmcastGrp = 7
ctrl_cmd_number DelmcastGrp = 8
ctrl_cmd_number GetmcastGrp = 9
ctrl_cmd_number (UnrecognizedConst n) = n

-- the variants, in their order
abbrev pub ctrl_cmd_variants : List CtrlCmd
ctrl_cmd_variants =
    Unspec ∷ Newfamily ∷ Delfamily ∷ Getfamily ∷ Newops ∷ Delops ∷ Getops ∷ NewmcastGrp ∷
    DelmcastGrp ∷ GetmcastGrp ∷ []

-- the first variant with a number, else the number without a name
abbrev pub ctrl_cmd_of : ℕ → CtrlCmd
ctrl_cmd_of = first_with ctrl_cmd_number ctrl_cmd_variants UnrecognizedConst

-- whether a value is a number without a name
abbrev pub ctrl_cmd_is_unrecognized : CtrlCmd → Bool
ctrl_cmd_is_unrecognized (UnrecognizedConst n) = true
ctrl_cmd_is_unrecognized v = false
