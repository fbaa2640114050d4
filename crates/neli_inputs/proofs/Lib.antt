mod Blocks
mod Powers
mod Records
mod Rows
mod Texts
