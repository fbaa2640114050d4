-- The numbers of `RtScope`.
use Rattle.std.specs.Prelude.{ℕ, Bool, true, false, List, [], ◌∷◌}
use Rattle.neli_wire.specs.Constants.{first_with}
use Rattle.neli_consts_routing.specs.declared.routes.RtScope.{RtScope}
use Rattle.neli_consts_routing.specs.declared.routes.RtScope.TheVariants.{Universe, Site, Link}
use Rattle.neli_consts_routing.specs.declared.routes.RtScope.TheVariants.{Host, Nowhere, UnrecognizedConst}

-- the number of each variant
abbrev pub rt_scope_number : RtScope → ℕ
rt_scope_number Universe = 0
rt_scope_number Site = 200
rt_scope_number Link = 253
rt_scope_number Host = 254
rt_scope_number Nowhere = 255
rt_scope_number (UnrecognizedConst n) = n

-- the variants, in their order
abbrev pub rt_scope_variants : List RtScope
rt_scope_variants =
    Universe ∷ Site ∷ Link ∷ Host ∷ Nowhere ∷ []

-- the first variant with a number, else the number without a name
abbrev pub rt_scope_of : ℕ → RtScope
rt_scope_of = first_with rt_scope_number rt_scope_variants UnrecognizedConst

-- whether a value is a number without a name
abbrev pub rt_scope_is_unrecognized : RtScope → Bool
rt_scope_is_unrecognized (UnrecognizedConst n) = true
rt_scope_is_unrecognized v = false
