pub mod BitArrays
pub mod Groups
pub mod Masks
