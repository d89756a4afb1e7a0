pub mod SecondEngine
pub mod FirstEngine
pub mod TwoEngines
pub mod Outputs
pub mod Runs
pub mod BroughtRuns
