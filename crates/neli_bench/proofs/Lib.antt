pub mod Items
pub mod Sums
