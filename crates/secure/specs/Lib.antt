pub mod Demand3
pub mod Examples
pub mod Leak
pub mod Hash
pub mod Gauge
pub mod OneAnswer
