pub mod Addresses
pub mod Parts
pub mod Strings
pub mod Values
