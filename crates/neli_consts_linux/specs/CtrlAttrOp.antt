-- The numbers of `CtrlAttrOp`.
use Rattle.std.specs.Prelude.{ℕ, Bool, true, false, List, [], ◌∷◌}
use Rattle.neli_wire.specs.Constants.{first_with}
use Rattle.neli_consts_linux.specs.declared.controller.CtrlAttrOp.{CtrlAttrOp}
use Rattle.neli_consts_linux.specs.declared.controller.CtrlAttrOp.TheVariants.{Unspec, Id, Flags, UnrecognizedConst}

-- the number of each variant
abbrev pub ctrl_attr_op_number : CtrlAttrOp → ℕ
ctrl_attr_op_number Unspec = 0
ctrl_attr_op_number Id = 1
ctrl_attr_op_number Flags = 2
ctrl_attr_op_number (UnrecognizedConst n) = n

-- the variants, in their order
abbrev pub ctrl_attr_op_variants : List CtrlAttrOp
ctrl_attr_op_variants =
    Unspec ∷ Id ∷ Flags ∷ []

-- the first variant with a number, else the number without a name
abbrev pub ctrl_attr_op_of : ℕ → CtrlAttrOp
ctrl_attr_op_of = first_with ctrl_attr_op_number ctrl_attr_op_variants UnrecognizedConst

-- whether a value is a number without a name
abbrev pub ctrl_attr_op_is_unrecognized : CtrlAttrOp → Bool
ctrl_attr_op_is_unrecognized (UnrecognizedConst n) = true
ctrl_attr_op_is_unrecognized v = false
