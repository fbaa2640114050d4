-- The numbers of `LogCopyMode`.
use Rattle.std.specs.Prelude.{ℕ, Bool, true, false, List, [], ◌∷◌}
use Rattle.neli_wire.specs.Constants.{first_with}
use Rattle.neli_consts_system.specs.declared.netfilter.LogCopyMode.{LogCopyMode}
use Rattle.neli_consts_system.specs.declared.netfilter.LogCopyMode.TheVariants.{None, Meta, Packet, UnrecognizedConst}

-- the number of each variant
abbrev pub log_copy_mode_number : LogCopyMode → ℕ
log_copy_mode_number None = 0
log_copy_mode_number Meta = 1
log_copy_mode_number Packet = 2
log_copy_mode_number (UnrecognizedConst n) = n

-- the variants, in their order
abbrev pub log_copy_mode_variants : List LogCopyMode
log_copy_mode_variants =
    None ∷ Meta ∷ Packet ∷ []

-- the first variant with a number, else the number without a name
abbrev pub log_copy_mode_of : ℕ → LogCopyMode
log_copy_mode_of = first_with log_copy_mode_number log_copy_mode_variants UnrecognizedConst

-- whether a value is a number without a name
abbrev pub log_copy_mode_is_unrecognized : LogCopyMode → Bool
log_copy_mode_is_unrecognized (UnrecognizedConst n) = true
log_copy_mode_is_unrecognized v = false
