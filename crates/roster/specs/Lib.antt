pub mod Meaning
pub mod Pages
pub mod Slots
pub mod Sheets
pub mod Placing
pub mod Filing
