pub mod Next
pub mod Reads
pub mod Answers
