pub mod Attributes
pub mod Bodies
pub mod Headers
pub mod RoundTrips
