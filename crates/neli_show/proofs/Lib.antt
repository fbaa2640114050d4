mod Lines
mod Messages
mod Numerals
mod Shown
mod WrittenOut
