pub mod Attributes
pub mod Items
pub mod Resolvers
