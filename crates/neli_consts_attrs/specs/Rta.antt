-- The numbers of `Rta`.
use Rattle.std.specs.Prelude.{ℕ, Bool, true, false, List, [], ◌∷◌}
use Rattle.neli_wire.specs.Constants.{first_with}
use Rattle.neli_consts_attrs.specs.declared.routes.Rta.{Rta}
use Rattle.neli_consts_attrs.specs.declared.routes.Rta.TheVariants.{Unspec, Dst, Src, Iif, Oif, Gateway, Priority}
use Rattle.neli_consts_attrs.specs.declared.routes.Rta.TheVariants.{Prefsrc, Metrics, Multipath, Protoinfo, Flow}
use Rattle.neli_consts_attrs.specs.declared.routes.Rta.TheVariants.{Cacheinfo, Session, MpAlgo, Table, Mark, MfcStats}
use Rattle.neli_consts_attrs.specs.declared.routes.Rta.TheVariants.{Via, Newdst, Pref, EncapType, Encap, Expires, Pad}
use Rattle.neli_consts_attrs.specs.declared.routes.Rta.TheVariants.{Uid, TtlPropagate, UnrecognizedConst}

-- the number of each variant
abbrev pub rta_number : Rta → ℕ
rta_number Unspec = 0
rta_number Dst = 1
rta_number Src = 2
rta_number Iif = 3
rta_number Oif = 4
rta_number Gateway = 5
rta_number Priority = 6
rta_number Prefsrc = 7
rta_number Metrics = 8
rta_number Multipath = 9
rta_number Protoinfo = 10
rta_number Flow = 11
rta_number Cacheinfo = 12
rta_number Session = 13
rta_number MpAlgo = 14
rta_number Table = 15
rta_number Mark = 16
rta_number MfcStats = 17
rta_number Via = 18
rta_number Newdst = 19
rta_number Pref = 20
rta_number EncapType = 21
rta_number Encap = 22
rta_number Expires = 23
rta_number Pad = 24
rta_number Uid = 25
rta_number TtlPropagate = 26
rta_number (UnrecognizedConst n) = n

-- the variants, in their order
abbrev pub rta_variants : List Rta
rta_variants =
    Unspec ∷ Dst ∷ Src ∷ Iif ∷ Oif ∷ Gateway ∷ Priority ∷ Prefsrc ∷ Metrics ∷ Multipath ∷
    Protoinfo ∷ Flow ∷ Cacheinfo ∷ Session ∷ MpAlgo ∷ Table ∷ Mark ∷ MfcStats ∷ Via ∷ Newdst ∷
    Pref ∷ EncapType ∷ Encap ∷ Expires ∷ Pad ∷ Uid ∷ TtlPropagate ∷ []

-- the first variant with a number, else the number without a name
abbrev pub rta_of : ℕ → Rta
rta_of = first_with rta_number rta_variants UnrecognizedConst

-- whether a value is a number without a name
abbrev pub rta_is_unrecognized : Rta → Bool
rta_is_unrecognized (UnrecognizedConst n) = true
rta_is_unrecognized v = false
