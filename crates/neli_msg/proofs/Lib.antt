pub mod Words
pub mod Attributes
pub mod Retyped
