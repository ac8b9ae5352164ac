mod Adding
mod Calls
pub mod Parts
