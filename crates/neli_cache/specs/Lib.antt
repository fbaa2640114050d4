pub mod Changes
pub mod Tables
pub mod Keys
pub mod Families
pub mod Fold
pub mod Histories
pub mod Differences
pub mod Walks
