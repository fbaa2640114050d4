-- The numbers of `Nha`.
use Rattle.std.specs.Prelude.{ℕ, Bool, true, false, List, [], ◌∷◌}
use Rattle.neli_wire.specs.Constants.{first_with}
use Rattle.neli_consts_linux.specs.declared.next_hops.Nha.{Nha}
use Rattle.neli_consts_linux.specs.declared.next_hops.Nha.TheVariants.{Unspec, Id, Group, GroupType, Blackhole, Oif}
use Rattle.neli_consts_linux.specs.declared.next_hops.Nha.TheVariants.{Gateway, EncapType, Encap, Groups, Master, Fdb}
use Rattle.neli_consts_linux.specs.declared.next_hops.Nha.TheVariants.{ResGroup, ResBucket, OpFlags, GroupStats}
use Rattle.neli_consts_linux.specs.declared.next_hops.Nha.TheVariants.{HwStatsEnable, HwStatsUsed, UnrecognizedConst}

-- the number of each variant
abbrev pub nha_number : Nha → ℕ
nha_number Unspec = 0
nha_number Id = 1
nha_number Group = 2
nha_number GroupType = 3
nha_number Blackhole = 4
nha_number Oif = 5
nha_number Gateway = 6
nha_number EncapType = 7
nha_number Encap = 8
nha_number Groups = 9
nha_number Master = 10
nha_number Fdb = 11
nha_number ResGroup = 12
nha_number ResBucket = 13
nha_number OpFlags = 14
nha_number GroupStats = 15
nha_number HwStatsEnable = 16
nha_number HwStatsUsed = 17
nha_number (UnrecognizedConst n) = n

-- the variants, in their order
abbrev pub nha_variants : List Nha
nha_variants =
    Unspec ∷ Id ∷ Group ∷ GroupType ∷ Blackhole ∷ Oif ∷ Gateway ∷ EncapType ∷ Encap ∷ Groups ∷
    Master ∷ Fdb ∷ ResGroup ∷ ResBucket ∷ OpFlags ∷ GroupStats ∷ HwStatsEnable ∷ HwStatsUsed ∷ []

-- the first variant with a number, else the number without a name
abbrev pub nha_of : ℕ → Nha
nha_of = first_with nha_number nha_variants UnrecognizedConst

-- whether a value is a number without a name
abbrev pub nha_is_unrecognized : Nha → Bool
nha_is_unrecognized (UnrecognizedConst n) = true
nha_is_unrecognized v = false
