mod Growing
mod NamedRows
mod Requested
