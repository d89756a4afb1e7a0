pub mod Heads
pub mod Steps
pub mod Sides
pub mod Inputs
pub mod Stops
