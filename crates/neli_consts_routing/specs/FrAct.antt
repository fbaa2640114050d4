-- The numbers of `FrAct`.
use Rattle.std.specs.Prelude.{ℕ, Bool, true, false, List, [], ◌∷◌}
use Rattle.neli_wire.specs.Constants.{first_with}
use Rattle.neli_consts_routing.specs.declared.rules.FrAct.{FrAct}
use Rattle.neli_consts_routing.specs.declared.rules.FrAct.TheVariants.{Unspec, FrActToTbl, FrActGoto}
use Rattle.neli_consts_routing.specs.declared.rules.FrAct.TheVariants.{FrActNop, FrActRes3, FrActRes4}
use Rattle.neli_consts_routing.specs.declared.rules.FrAct.TheVariants.{FrActBlackhole, FrActUnreachable, FrActProhibit}
use Rattle.neli_consts_routing.specs.declared.rules.FrAct.TheVariants.{FrActMax, UnrecognizedConst}

-- the number of each variant
abbrev pub fr_act_number : FrAct → ℕ
fr_act_number Unspec = 0
fr_act_number FrActToTbl = 1
fr_act_number FrActGoto = 2
fr_act_number FrActNop = 3
fr_act_number FrActRes3 = 4
fr_act_number FrActRes4 = 5
fr_act_number FrActBlackhole = 6
fr_act_number FrActUnreachable = 7
fr_act_number FrActProhibit = 8
fr_act_number FrActMax = 9
fr_act_number (UnrecognizedConst n) = n

-- the variants, in their order
abbrev pub fr_act_variants : List FrAct
fr_act_variants =
    Unspec ∷ FrActToTbl ∷ FrActGoto ∷ FrActNop ∷ FrActRes3 ∷ FrActRes4 ∷ FrActBlackhole ∷
    FrActUnreachable ∷ FrActProhibit ∷ FrActMax ∷ []

-- the first variant with a number, else the number without a name
abbrev pub fr_act_of : ℕ → FrAct
fr_act_of = first_with fr_act_number fr_act_variants UnrecognizedConst

-- whether a value is a number without a name
abbrev pub fr_act_is_unrecognized : FrAct → Bool
fr_act_is_unrecognized (UnrecognizedConst n) = true
fr_act_is_unrecognized v = false
