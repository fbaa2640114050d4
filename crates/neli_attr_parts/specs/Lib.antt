pub mod Builders
pub mod TypeField
pub mod Attributes
pub mod Buffers
pub mod laws
