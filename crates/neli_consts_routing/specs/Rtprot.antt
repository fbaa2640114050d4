-- The numbers of `Rtprot`.
use Rattle.std.specs.Prelude.{ℕ, Bool, true, false, List, [], ◌∷◌}
use Rattle.neli_wire.specs.Constants.{first_with}
use Rattle.neli_consts_routing.specs.declared.routes.Rtprot.{Rtprot}
use Rattle.neli_consts_routing.specs.declared.routes.Rtprot.TheVariants.{Unspec, Redirect, Kernel}
use Rattle.neli_consts_routing.specs.declared.routes.Rtprot.TheVariants.{Boot, Static, UnrecognizedConst}

-- the number of each variant
abbrev pub rtprot_number : Rtprot → ℕ
rtprot_number Unspec = 0
rtprot_number Redirect = 1
rtprot_number Kernel = 2
rtprot_number Boot = 3
rtprot_number Static = 4
rtprot_number (UnrecognizedConst n) = n

-- the variants, in their order
abbrev pub rtprot_variants : List Rtprot
rtprot_variants =
    Unspec ∷ Redirect ∷ Kernel ∷ Boot ∷ Static ∷ []

-- the first variant with a number, else the number without a name
abbrev pub rtprot_of : ℕ → Rtprot
rtprot_of = first_with rtprot_number rtprot_variants UnrecognizedConst

-- whether a value is a number without a name
abbrev pub rtprot_is_unrecognized : Rtprot → Bool
rtprot_is_unrecognized (UnrecognizedConst n) = true
rtprot_is_unrecognized v = false
