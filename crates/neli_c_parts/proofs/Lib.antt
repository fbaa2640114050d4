mod Aheads
mod DumpPlaces
mod Explained
mod FreePlaces
mod Hears
mod Items
mod Lends
mod Listens
mod Looked
pub mod Parts
mod Replies
mod Requests
mod SessionPlaces
pub mod Steps
mod TablesPlaces
