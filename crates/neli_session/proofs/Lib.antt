mod Messages
mod Queues
mod Passed
mod Datagrams
mod AllRead
mod Same
mod Entries
mod Runs
mod Later
mod Outboxes
mod Soundness
mod Calls
mod Followed
mod Numbers
mod Regrouped
mod Readers
mod Turns
mod Verdicts
pub mod Lines
pub mod Readiness
pub mod Free
mod Current
