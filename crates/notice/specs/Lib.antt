pub mod Notices
pub mod Outcomes
pub mod Implicit
