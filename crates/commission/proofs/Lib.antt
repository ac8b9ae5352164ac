mod Places
mod Naming
mod Lowering
mod Sides
mod Alike
