pub mod Places
pub mod Sends
pub mod Verdicts
