pub use Rattle.neli_attr_parts.specs.laws.Attributes
pub use Rattle.neli_attr_parts.specs.laws.TypeField
pub mod Equality
pub mod Nlattr
pub mod Rtattr
pub mod RoundTrips
