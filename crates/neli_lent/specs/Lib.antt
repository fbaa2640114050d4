pub mod Frames
pub mod Walks
pub mod Attributes
pub mod Messages
pub mod Spans
pub mod Written
pub mod laws
