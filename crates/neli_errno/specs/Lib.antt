pub mod Errnos
