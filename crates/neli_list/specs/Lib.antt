pub mod Payloads
pub mod Handles
pub mod Lookup
pub mod Lends
pub mod laws
