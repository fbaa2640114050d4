-- The meaning of a logging command's number.
use Rattle.std.specs.Prelude.{ℕ, Bool, List, [], ◌∷◌}
use Rattle.neli_wire.specs.Constants.{reading, first_recognized}
use Rattle.neli_consts_system.specs.LogCmd.{log_cmd_number, log_cmd_of, log_cmd_is_unrecognized}
use Rattle.neli_consts.specs.declared.commands.LogCfgCmdWrapper.{LogCfgCmdWrapper}
use Rattle.neli_consts.specs.declared.commands.LogCfgCmdWrapper.TheVariants.{LogCmd, UnrecognizedConst}

-- the number of each value
abbrev pub log_cfg_cmd_wrapper_number : LogCfgCmdWrapper → ℕ
log_cfg_cmd_wrapper_number (LogCmd v) = log_cmd_number v
log_cfg_cmd_wrapper_number (UnrecognizedConst n) = n

-- each table's value for a number, in the order of the tables
abbrev pub log_cfg_cmd_wrapper_readings : ℕ → List (Bool × LogCfgCmdWrapper)
log_cfg_cmd_wrapper_readings n =
    reading log_cmd_is_unrecognized LogCmd (log_cmd_of n)
    ∷ []

-- the value from the first table that has a name for a number, else the number without a name
abbrev pub log_cfg_cmd_wrapper_of : ℕ → LogCfgCmdWrapper
log_cfg_cmd_wrapper_of n = first_recognized (log_cfg_cmd_wrapper_readings n) (UnrecognizedConst n)
