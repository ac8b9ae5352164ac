pub mod Times
pub mod Lists
pub mod Entries
pub mod Standings
pub mod Holdings
