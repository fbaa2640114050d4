pub mod Answers
pub mod Dumps
pub mod Datagrams
pub mod Requests
pub mod Delivered
pub mod Marks
