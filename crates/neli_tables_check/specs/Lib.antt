pub mod Cuts
pub mod Diagnoses
pub mod Offsets
pub mod Parsers
pub mod Paths
pub mod Policies
pub mod Refusals
pub mod Violations
