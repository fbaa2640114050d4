mod Turns
pub mod Complete
mod Typed
mod Given
pub mod Came
mod Exchanges
pub mod Heard
mod Marked
mod Unacknowledged
