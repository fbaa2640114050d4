pub mod Calls
pub mod Lists
pub mod Outcomes
pub mod Places
pub mod Reads
