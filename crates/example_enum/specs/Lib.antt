pub mod WirelessAttribute
pub mod WirelessCommand
