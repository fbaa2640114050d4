pub mod Pieces
pub mod Messages
pub mod Empty
pub mod Faults
