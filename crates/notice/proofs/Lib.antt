mod Beginning
mod Changing
mod Passing
mod Removing
