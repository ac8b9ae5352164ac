pub mod Keeping
pub mod Moves
pub mod Requests
pub mod Changes
