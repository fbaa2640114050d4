-- The numbers of `Arphrd`.
use Rattle.std.specs.Prelude.{ℕ, Bool, true, false, List, [], ◌∷◌}
use Rattle.neli_wire.specs.Constants.{first_with}
use Rattle.neli_consts_routing.specs.declared.links.Arphrd.{Arphrd}
use Rattle.neli_consts_routing.specs.declared.links.Arphrd.TheVariants.{Netrom, Ether, Eether, AX25, Pronet}
use Rattle.neli_consts_routing.specs.declared.links.Arphrd.TheVariants.{Chaos, Ieee802, Arcnet, Appletlk, Dlci}
use Rattle.neli_consts_routing.specs.declared.links.Arphrd.TheVariants.{Atm, Metricom, Ieee1394, Eui64, Infiniband}
use Rattle.neli_consts_routing.specs.declared.links.Arphrd.TheVariants.{Loopback, Void, None, UnrecognizedConst}

-- the number of each variant
abbrev pub arphrd_number : Arphrd → ℕ
arphrd_number Netrom = 0
arphrd_number Ether = 1
arphrd_number Eether = 2
arphrd_number AX25 = 3
arphrd_number Pronet = 4
arphrd_number Chaos = 5
arphrd_number Ieee802 = 6
arphrd_number Arcnet = 7
arphrd_number Appletlk = 8
arphrd_number Dlci = 15
arphrd_number Atm = 8
arphrd_number Metricom = 23
arphrd_number Ieee1394 = 24
arphrd_number Eui64 = 27
arphrd_number Infiniband = 32
arphrd_number Loopback = 772
arphrd_number Void = 65535
arphrd_number None = 65534
arphrd_number (UnrecognizedConst n) = n

-- the variants, in their order
abbrev pub arphrd_variants : List Arphrd
arphrd_variants =
    Netrom ∷ Ether ∷ Eether ∷ AX25 ∷ Pronet ∷ Chaos ∷ Ieee802 ∷ Arcnet ∷ Appletlk ∷ Dlci ∷ Atm ∷
    Metricom ∷ Ieee1394 ∷ Eui64 ∷ Infiniband ∷ Loopback ∷ Void ∷ None ∷ []

-- the first variant with a number, else the number without a name
abbrev pub arphrd_of : ℕ → Arphrd
arphrd_of = first_with arphrd_number arphrd_variants UnrecognizedConst

-- whether a value is a number without a name
abbrev pub arphrd_is_unrecognized : Arphrd → Bool
arphrd_is_unrecognized (UnrecognizedConst n) = true
arphrd_is_unrecognized v = false
