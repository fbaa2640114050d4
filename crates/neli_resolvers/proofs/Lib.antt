pub mod Lists
pub mod Lookups
