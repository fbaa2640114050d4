pub mod Gauge
pub mod Probe
pub mod Watch
