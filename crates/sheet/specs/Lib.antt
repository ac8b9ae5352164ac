pub mod Contents
pub mod Rules
pub mod Octets
pub mod Layout
pub mod Decoded
pub mod Promises
