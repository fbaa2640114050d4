-- The numbers of `NexthopGrpType`.
use Rattle.std.specs.Prelude.{ℕ, Bool, true, false, List, [], ◌∷◌}
use Rattle.neli_wire.specs.Constants.{first_with}
use Rattle.neli_consts_linux.specs.declared.next_hops.NexthopGrpType.{NexthopGrpType}
use Rattle.neli_consts_linux.specs.declared.next_hops.NexthopGrpType.TheVariants.{Mpath, Res, UnrecognizedConst}

-- the number of each variant
abbrev pub nexthop_grp_type_number : NexthopGrpType → ℕ
nexthop_grp_type_number Mpath = 0
nexthop_grp_type_number Res = 1
nexthop_grp_type_number (UnrecognizedConst n) = n

-- the variants, in their order
abbrev pub nexthop_grp_type_variants : List NexthopGrpType
nexthop_grp_type_variants =
    Mpath ∷ Res ∷ []

-- the first variant with a number, else the number without a name
abbrev pub nexthop_grp_type_of : ℕ → NexthopGrpType
nexthop_grp_type_of = first_with nexthop_grp_type_number nexthop_grp_type_variants UnrecognizedConst

-- whether a value is a number without a name
abbrev pub nexthop_grp_type_is_unrecognized : NexthopGrpType → Bool
nexthop_grp_type_is_unrecognized (UnrecognizedConst n) = true
nexthop_grp_type_is_unrecognized v = false
