-- The numbers of `IflaMacvlan`.
use Rattle.std.specs.Prelude.{ℕ, Bool, true, false, List, [], ◌∷◌}
use Rattle.neli_wire.specs.Constants.{first_with}
use Rattle.neli_consts_linux.specs.declared.macvlans.IflaMacvlan.{IflaMacvlan}
use Rattle.neli_consts_linux.specs.declared.macvlans.IflaMacvlan.TheVariants.{Unspec, Mode, Flags}
use Rattle.neli_consts_linux.specs.declared.macvlans.IflaMacvlan.TheVariants.{MacaddrMode, Macaddr, MacaddrData}
use Rattle.neli_consts_linux.specs.declared.macvlans.IflaMacvlan.TheVariants.{MacaddrCount, BcQueueLen, BcQueueLenUsed}
use Rattle.neli_consts_linux.specs.declared.macvlans.IflaMacvlan.TheVariants.{BcCutoff, UnrecognizedConst}

-- the number of each variant
abbrev pub ifla_macvlan_number : IflaMacvlan → ℕ
ifla_macvlan_number Unspec = 0
ifla_macvlan_number Mode = 1
ifla_macvlan_number Flags = 2
ifla_macvlan_number MacaddrMode = 3
ifla_macvlan_number Macaddr = 4
ifla_macvlan_number MacaddrData = 5
ifla_macvlan_number MacaddrCount = 6
ifla_macvlan_number BcQueueLen = 7
ifla_macvlan_number BcQueueLenUsed = 8
ifla_macvlan_number BcCutoff = 9
ifla_macvlan_number (UnrecognizedConst n) = n

-- the variants, in their order
abbrev pub ifla_macvlan_variants : List IflaMacvlan
ifla_macvlan_variants =
    Unspec ∷ Mode ∷ Flags ∷ MacaddrMode ∷ Macaddr ∷ MacaddrData ∷ MacaddrCount ∷ BcQueueLen ∷
    BcQueueLenUsed ∷ BcCutoff ∷ []

-- the first variant with a number, else the number without a name
abbrev pub ifla_macvlan_of : ℕ → IflaMacvlan
ifla_macvlan_of = first_with ifla_macvlan_number ifla_macvlan_variants UnrecognizedConst

-- whether a value is a number without a name
abbrev pub ifla_macvlan_is_unrecognized : IflaMacvlan → Bool
ifla_macvlan_is_unrecognized (UnrecognizedConst n) = true
ifla_macvlan_is_unrecognized v = false
