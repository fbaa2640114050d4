pub mod Pieces
pub mod Queues
