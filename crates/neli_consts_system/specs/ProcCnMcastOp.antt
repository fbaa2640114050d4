-- The numbers of `ProcCnMcastOp`.
use Rattle.std.specs.Prelude.{ℕ, Bool, true, false, List, [], ◌∷◌}
use Rattle.neli_wire.specs.Constants.{first_with}
use Rattle.neli_consts_system.specs.declared.connector.ProcCnMcastOp.{ProcCnMcastOp}
use Rattle.neli_consts_system.specs.declared.connector.ProcCnMcastOp.TheVariants.{Listen, Ignore, UnrecognizedConst}

-- the number of each variant
abbrev pub proc_cn_mcast_op_number : ProcCnMcastOp → ℕ
proc_cn_mcast_op_number Listen = 1
proc_cn_mcast_op_number Ignore = 2
proc_cn_mcast_op_number (UnrecognizedConst n) = n

-- the variants, in their order
abbrev pub proc_cn_mcast_op_variants : List ProcCnMcastOp
proc_cn_mcast_op_variants =
    Listen ∷ Ignore ∷ []

-- the first variant with a number, else the number without a name
abbrev pub proc_cn_mcast_op_of : ℕ → ProcCnMcastOp
proc_cn_mcast_op_of = first_with proc_cn_mcast_op_number proc_cn_mcast_op_variants UnrecognizedConst

-- whether a value is a number without a name
abbrev pub proc_cn_mcast_op_is_unrecognized : ProcCnMcastOp → Bool
proc_cn_mcast_op_is_unrecognized (UnrecognizedConst n) = true
proc_cn_mcast_op_is_unrecognized v = false
