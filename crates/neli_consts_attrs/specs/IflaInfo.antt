-- The numbers of `IflaInfo`.
use Rattle.std.specs.Prelude.{ℕ, Bool, true, false, List, [], ◌∷◌}
use Rattle.neli_wire.specs.Constants.{first_with}
use Rattle.neli_consts_attrs.specs.declared.link_kinds.IflaInfo.{IflaInfo}
use Rattle.neli_consts_attrs.specs.declared.link_kinds.IflaInfo.TheVariants.{Unspec, Kind, Data, Xstats}
use Rattle.neli_consts_attrs.specs.declared.link_kinds.IflaInfo.TheVariants.{SlaveKind, SlaveData, UnrecognizedConst}

-- the number of each variant
abbrev pub ifla_info_number : IflaInfo → ℕ
ifla_info_number Unspec = 0
ifla_info_number Kind = 1
ifla_info_number Data = 2
ifla_info_number Xstats = 3
ifla_info_number SlaveKind = 4
ifla_info_number SlaveData = 5
ifla_info_number (UnrecognizedConst n) = n

-- the variants, in their order
abbrev pub ifla_info_variants : List IflaInfo
ifla_info_variants =
    Unspec ∷ Kind ∷ Data ∷ Xstats ∷ SlaveKind ∷ SlaveData ∷ []

-- the first variant with a number, else the number without a name
abbrev pub ifla_info_of : ℕ → IflaInfo
ifla_info_of = first_with ifla_info_number ifla_info_variants UnrecognizedConst

-- whether a value is a number without a name
abbrev pub ifla_info_is_unrecognized : IflaInfo → Bool
ifla_info_is_unrecognized (UnrecognizedConst n) = true
ifla_info_is_unrecognized v = false
