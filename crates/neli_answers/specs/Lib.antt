pub mod Answers
pub mod Times
