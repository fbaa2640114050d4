pub mod CnMsg
pub mod Genlmsghdr
pub mod ProcEventHeader
pub mod ProcEvents
pub mod RoundTrips
pub mod View
pub mod laws
