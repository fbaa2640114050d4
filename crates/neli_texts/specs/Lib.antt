pub mod ExitStatus
pub mod FlagNames
