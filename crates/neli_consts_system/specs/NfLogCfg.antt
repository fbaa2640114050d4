-- The numbers of `NfLogCfg`.
use Rattle.std.specs.Prelude.{ℕ, Bool, true, false, List, [], ◌∷◌}
use Rattle.neli_wire.specs.Constants.{first_with}
use Rattle.neli_consts_system.specs.declared.netfilter.NfLogCfg.{NfLogCfg}
use Rattle.neli_consts_system.specs.declared.netfilter.NfLogCfg.TheVariants.{Cmd, Mode, NlBufSize, Timeout}
use Rattle.neli_consts_system.specs.declared.netfilter.NfLogCfg.TheVariants.{QThresh, Flags, UnrecognizedConst}

-- the number of each variant
abbrev pub nf_log_cfg_number : NfLogCfg → ℕ
nf_log_cfg_number Cmd = 1
nf_log_cfg_number Mode = 2
nf_log_cfg_number NlBufSize = 3
nf_log_cfg_number Timeout = 4
nf_log_cfg_number QThresh = 5
nf_log_cfg_number Flags = 6
nf_log_cfg_number (UnrecognizedConst n) = n

-- the variants, in their order
abbrev pub nf_log_cfg_variants : List NfLogCfg
nf_log_cfg_variants =
    Cmd ∷ Mode ∷ NlBufSize ∷ Timeout ∷ QThresh ∷ Flags ∷ []

-- the first variant with a number, else the number without a name
abbrev pub nf_log_cfg_of : ℕ → NfLogCfg
nf_log_cfg_of = first_with nf_log_cfg_number nf_log_cfg_variants UnrecognizedConst

-- whether a value is a number without a name
abbrev pub nf_log_cfg_is_unrecognized : NfLogCfg → Bool
nf_log_cfg_is_unrecognized (UnrecognizedConst n) = true
nf_log_cfg_is_unrecognized v = false
