pub mod Deliveries
pub mod Readings
pub mod Lists
