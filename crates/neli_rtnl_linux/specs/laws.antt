pub mod BrPortMsg
pub mod GnetStatsBasic
pub mod GnetStatsQueue
pub mod IfStatsMsg
pub mod Ndtmsg
pub mod Nhmsg
