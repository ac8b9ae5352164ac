mod Filling
mod Loops
mod Planning
mod Settling
