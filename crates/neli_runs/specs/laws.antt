pub mod Deliveries
pub mod Kept
