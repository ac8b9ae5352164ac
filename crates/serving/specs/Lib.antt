pub mod States
pub mod Ticks
pub mod Enrolments
pub mod Calls
pub mod Notices
pub mod Pendings
