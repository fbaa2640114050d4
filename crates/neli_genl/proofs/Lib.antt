mod Equality
pub mod GenlMessages
pub mod ProcEvents
