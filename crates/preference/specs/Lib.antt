pub mod Orders
pub mod Priorities
pub mod Zones
