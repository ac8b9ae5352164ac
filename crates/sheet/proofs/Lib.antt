pub mod Sums
pub mod Bytes
pub mod Back
pub mod Reading
