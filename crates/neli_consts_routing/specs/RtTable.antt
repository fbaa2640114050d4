-- The numbers of `RtTable`.
use Rattle.std.specs.Prelude.{ℕ, Bool, true, false, List, [], ◌∷◌}
use Rattle.neli_wire.specs.Constants.{first_with}
use Rattle.neli_consts_routing.specs.declared.routes.RtTable.{RtTable}
use Rattle.neli_consts_routing.specs.declared.routes.RtTable.TheVariants.{Unspec, Compat, Default}
use Rattle.neli_consts_routing.specs.declared.routes.RtTable.TheVariants.{Main, Local, UnrecognizedConst}

-- the number of each variant
abbrev pub rt_table_number : RtTable → ℕ
rt_table_number Unspec = 0
rt_table_number Compat = 252
rt_table_number Default = 253
rt_table_number Main = 254
rt_table_number Local = 255
rt_table_number (UnrecognizedConst n) = n

-- the variants, in their order
abbrev pub rt_table_variants : List RtTable
rt_table_variants =
    Unspec ∷ Compat ∷ Default ∷ Main ∷ Local ∷ []

-- the first variant with a number, else the number without a name
abbrev pub rt_table_of : ℕ → RtTable
rt_table_of = first_with rt_table_number rt_table_variants UnrecognizedConst

-- whether a value is a number without a name
abbrev pub rt_table_is_unrecognized : RtTable → Bool
rt_table_is_unrecognized (UnrecognizedConst n) = true
rt_table_is_unrecognized v = false
