pub mod CnMsg
pub mod Genlmsghdr
pub mod ProcEvents
