pub mod Made
pub mod Errors
pub mod Look
pub mod ExtAcks
pub mod Bodies
