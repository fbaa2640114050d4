-- The numbers of `GenlId`.
use Rattle.std.specs.Prelude.{ℕ, Bool, true, false, List, [], ◌∷◌}
use Rattle.neli_wire.specs.Constants.{first_with}
use Rattle.neli_consts.specs.declared.genl.GenlId.{GenlId}
use Rattle.neli_consts.specs.declared.genl.GenlId.TheVariants.{Ctrl, VfsDquot, Pmcraid, UnrecognizedConst}

-- the number of each variant
abbrev pub genl_id_number : GenlId → ℕ
genl_id_number Ctrl = 16
genl_id_number VfsDquot = 17
genl_id_number Pmcraid = 18
genl_id_number (UnrecognizedConst n) = n

-- the variants, in their order
abbrev pub genl_id_variants : List GenlId
genl_id_variants =
    Ctrl ∷ VfsDquot ∷ Pmcraid ∷ []

-- the first variant with a number, else the number without a name
abbrev pub genl_id_of : ℕ → GenlId
genl_id_of = first_with genl_id_number genl_id_variants UnrecognizedConst

-- whether a value is a number without a name
abbrev pub genl_id_is_unrecognized : GenlId → Bool
genl_id_is_unrecognized (UnrecognizedConst n) = true
genl_id_is_unrecognized v = false
