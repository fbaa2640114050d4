mod Lists
mod Owned
mod Walks
pub mod Spans
