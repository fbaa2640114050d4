-- Laws that a caller's proofs may name in `using`, which looks for them in a file of this crate.
pub mod Reading
pub mod Writing
