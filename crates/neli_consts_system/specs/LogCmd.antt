-- The numbers of `LogCmd`.
use Rattle.std.specs.Prelude.{ℕ, Bool, true, false, List, [], ◌∷◌}
use Rattle.neli_wire.specs.Constants.{first_with}
use Rattle.neli_consts_system.specs.declared.netfilter.LogCmd.{LogCmd}
use Rattle.neli_consts_system.specs.declared.netfilter.LogCmd.TheVariants.{Bind, Unbind, PfBind}
use Rattle.neli_consts_system.specs.declared.netfilter.LogCmd.TheVariants.{PfUnbind, UnrecognizedConst}

-- the number of each variant
abbrev pub log_cmd_number : LogCmd → ℕ
log_cmd_number Bind = 1
log_cmd_number Unbind = 2
log_cmd_number PfBind = 3
log_cmd_number PfUnbind = 4
log_cmd_number (UnrecognizedConst n) = n

-- the variants, in their order
abbrev pub log_cmd_variants : List LogCmd
log_cmd_variants =
    Bind ∷ Unbind ∷ PfBind ∷ PfUnbind ∷ []

-- the first variant with a number, else the number without a name
abbrev pub log_cmd_of : ℕ → LogCmd
log_cmd_of = first_with log_cmd_number log_cmd_variants UnrecognizedConst

-- whether a value is a number without a name
abbrev pub log_cmd_is_unrecognized : LogCmd → Bool
log_cmd_is_unrecognized (UnrecognizedConst n) = true
log_cmd_is_unrecognized v = false
