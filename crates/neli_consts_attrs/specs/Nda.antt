-- The numbers of `Nda`.
use Rattle.std.specs.Prelude.{ℕ, Bool, true, false, List, [], ◌∷◌}
use Rattle.neli_wire.specs.Constants.{first_with}
use Rattle.neli_consts_attrs.specs.declared.neighbours.Nda.{Nda}
use Rattle.neli_consts_attrs.specs.declared.neighbours.Nda.TheVariants.{Unspec, Dst, Lladdr, Cacheinfo, Probes}
use Rattle.neli_consts_attrs.specs.declared.neighbours.Nda.TheVariants.{Vlan, Port, Vni, Ifindex, Master}
use Rattle.neli_consts_attrs.specs.declared.neighbours.Nda.TheVariants.{LinkNetnsid, SrcVni, UnrecognizedConst}

-- the number of each variant
abbrev pub nda_number : Nda → ℕ
nda_number Unspec = 0
nda_number Dst = 1
nda_number Lladdr = 2
nda_number Cacheinfo = 3
nda_number Probes = 4
nda_number Vlan = 5
nda_number Port = 6
nda_number Vni = 7
nda_number Ifindex = 8
nda_number Master = 9
nda_number LinkNetnsid = 10
nda_number SrcVni = 11
nda_number (UnrecognizedConst n) = n

-- the variants, in their order
abbrev pub nda_variants : List Nda
nda_variants =
    Unspec ∷ Dst ∷ Lladdr ∷ Cacheinfo ∷ Probes ∷ Vlan ∷ Port ∷ Vni ∷ Ifindex ∷ Master ∷
    LinkNetnsid ∷ SrcVni ∷ []

-- the first variant with a number, else the number without a name
abbrev pub nda_of : ℕ → Nda
nda_of = first_with nda_number nda_variants UnrecognizedConst

-- whether a value is a number without a name
abbrev pub nda_is_unrecognized : Nda → Bool
nda_is_unrecognized (UnrecognizedConst n) = true
nda_is_unrecognized v = false
