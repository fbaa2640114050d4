-- The numbers of `IflaVf`.
use Rattle.std.specs.Prelude.{ℕ, Bool, true, false, List, [], ◌∷◌}
use Rattle.neli_wire.specs.Constants.{first_with}
use Rattle.neli_consts_linux.specs.declared.virtual_functions.IflaVf.{IflaVf}
use Rattle.neli_consts_linux.specs.declared.virtual_functions.IflaVf.TheVariants.{Unspec, Mac, Vlan, TxRate, Spoofchk}
use Rattle.neli_consts_linux.specs.declared.virtual_functions.IflaVf.TheVariants.{LinkState, Rate, RssQueryEn, Stats}
use Rattle.neli_consts_linux.specs.declared.virtual_functions.IflaVf.TheVariants.{Trust, IbNodeGuid, IbPortGuid}
use Rattle.neli_consts_linux.specs.declared.virtual_functions.IflaVf.TheVariants.{VlanList, Broadcast}
use Rattle.neli_consts_linux.specs.declared.virtual_functions.IflaVf.TheVariants.{UnrecognizedConst}

-- the number of each variant
abbrev pub ifla_vf_number : IflaVf → ℕ
ifla_vf_number Unspec = 0
ifla_vf_number Mac = 1
ifla_vf_number Vlan = 2
ifla_vf_number TxRate = 3
ifla_vf_number Spoofchk = 4
ifla_vf_number LinkState = 5
ifla_vf_number Rate = 6
ifla_vf_number RssQueryEn = 7
ifla_vf_number Stats = 8
ifla_vf_number Trust = 9
ifla_vf_number IbNodeGuid = 10
ifla_vf_number IbPortGuid = 11
ifla_vf_number VlanList = 12
ifla_vf_number Broadcast = 13
ifla_vf_number (UnrecognizedConst n) = n

-- the variants, in their order
abbrev pub ifla_vf_variants : List IflaVf
ifla_vf_variants =
    Unspec ∷ Mac ∷ Vlan ∷ TxRate ∷ Spoofchk ∷ LinkState ∷ Rate ∷ RssQueryEn ∷
    Stats ∷ Trust ∷ IbNodeGuid ∷ IbPortGuid ∷ VlanList ∷ Broadcast ∷ []

-- the first variant with a number, else the number without a name
abbrev pub ifla_vf_of : ℕ → IflaVf
ifla_vf_of = first_with ifla_vf_number ifla_vf_variants UnrecognizedConst

-- whether a value is a number without a name
abbrev pub ifla_vf_is_unrecognized : IflaVf → Bool
ifla_vf_is_unrecognized (UnrecognizedConst n) = true
ifla_vf_is_unrecognized v = false
