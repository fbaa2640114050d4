mod Alike
mod Lists
mod Readings
mod Later
pub mod OtherReads
mod Notifications
mod Regrouping
mod Requests
mod Steps
mod Walks
mod Runs
mod Verdicts
