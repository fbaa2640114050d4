mod Inline
mod Texts
mod Walks
