pub mod Steps
pub mod Radios
