pub mod Served
pub mod Answered
pub mod Given
pub mod Busy
pub mod Silent
