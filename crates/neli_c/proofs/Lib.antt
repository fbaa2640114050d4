pub mod Frames
pub mod LentCodes
pub mod Opened
pub mod OutOfPlace
