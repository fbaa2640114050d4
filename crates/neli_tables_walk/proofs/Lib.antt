mod Around
mod Ends
mod FieldRows
mod Pairs
mod Lists
mod Neighbours
pub mod Offsets
mod Visited
mod Walks
pub mod Attributes
pub mod BodyTexts
mod ValueLists
mod ValueTexts
mod Columns
