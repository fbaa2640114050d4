pub mod Complete
pub mod Exchanges
pub mod Notified
pub mod Served
pub mod Turns
