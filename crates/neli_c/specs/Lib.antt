pub mod Lists
pub mod Opens
pub mod Reads
pub mod Texts
