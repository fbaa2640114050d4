pub mod Keyed
pub mod Folded
pub mod Steps
pub mod Told
