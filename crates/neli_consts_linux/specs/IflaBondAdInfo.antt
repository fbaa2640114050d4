-- The numbers of `IflaBondAdInfo`.
use Rattle.std.specs.Prelude.{ℕ, Bool, true, false, List, [], ◌∷◌}
use Rattle.neli_wire.specs.Constants.{first_with}
use Rattle.neli_consts_linux.specs.declared.bonds.IflaBondAdInfo.{IflaBondAdInfo}
use Rattle.neli_consts_linux.specs.declared.bonds.IflaBondAdInfo.TheVariants.{Unspec, Aggregator, NumPorts, ActorKey}
use Rattle.neli_consts_linux.specs.declared.bonds.IflaBondAdInfo.TheVariants.{PartnerKey, PartnerMac, UnrecognizedConst}

-- the number of each variant
abbrev pub ifla_bond_ad_info_number : IflaBondAdInfo → ℕ
ifla_bond_ad_info_number Unspec = 0
ifla_bond_ad_info_number Aggregator = 1
ifla_bond_ad_info_number NumPorts = 2
ifla_bond_ad_info_number ActorKey = 3
ifla_bond_ad_info_number PartnerKey = 4
ifla_bond_ad_info_number PartnerMac = 5
ifla_bond_ad_info_number (UnrecognizedConst n) = n

-- the variants, in their order
abbrev pub ifla_bond_ad_info_variants : List IflaBondAdInfo
ifla_bond_ad_info_variants =
    Unspec ∷ Aggregator ∷ NumPorts ∷ ActorKey ∷ PartnerKey ∷ PartnerMac ∷ []

-- the first variant with a number, else the number without a name
abbrev pub ifla_bond_ad_info_of : ℕ → IflaBondAdInfo
ifla_bond_ad_info_of = first_with ifla_bond_ad_info_number ifla_bond_ad_info_variants UnrecognizedConst

-- whether a value is a number without a name
abbrev pub ifla_bond_ad_info_is_unrecognized : IflaBondAdInfo → Bool
ifla_bond_ad_info_is_unrecognized (UnrecognizedConst n) = true
ifla_bond_ad_info_is_unrecognized v = false
