-- The numbers of `Rtn`.
use Rattle.std.specs.Prelude.{ℕ, Bool, true, false, List, [], ◌∷◌}
use Rattle.neli_wire.specs.Constants.{first_with}
use Rattle.neli_consts_routing.specs.declared.routes.Rtn.{Rtn}
use Rattle.neli_consts_routing.specs.declared.routes.Rtn.TheVariants.{Unspec, Unicast, Local, Broadcast, Anycast}
use Rattle.neli_consts_routing.specs.declared.routes.Rtn.TheVariants.{Multicast, Blackhole, Unreachable, Prohibit}
use Rattle.neli_consts_routing.specs.declared.routes.Rtn.TheVariants.{Throw, Nat, Xresolve, UnrecognizedConst}

-- the number of each variant
abbrev pub rtn_number : Rtn → ℕ
rtn_number Unspec = 0
rtn_number Unicast = 1
rtn_number Local = 2
rtn_number Broadcast = 3
rtn_number Anycast = 4
rtn_number Multicast = 5
rtn_number Blackhole = 6
rtn_number Unreachable = 7
rtn_number Prohibit = 8
rtn_number Throw = 9
rtn_number Nat = 10
rtn_number Xresolve = 11
rtn_number (UnrecognizedConst n) = n

-- the variants, in their order
abbrev pub rtn_variants : List Rtn
rtn_variants =
    Unspec ∷ Unicast ∷ Local ∷ Broadcast ∷ Anycast ∷ Multicast ∷ Blackhole ∷ Unreachable ∷
    Prohibit ∷ Throw ∷ Nat ∷ Xresolve ∷ []

-- the first variant with a number, else the number without a name
abbrev pub rtn_of : ℕ → Rtn
rtn_of = first_with rtn_number rtn_variants UnrecognizedConst

-- whether a value is a number without a name
abbrev pub rtn_is_unrecognized : Rtn → Bool
rtn_is_unrecognized (UnrecognizedConst n) = true
rtn_is_unrecognized v = false
