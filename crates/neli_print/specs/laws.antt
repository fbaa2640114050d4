pub mod Open
pub mod Printed
