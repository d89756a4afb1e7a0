pub mod Outputs
pub mod Statuses
pub mod Runs
pub mod RunEnds
pub mod Stops
pub mod Loads
