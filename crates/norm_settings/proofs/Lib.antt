pub mod Grammar
pub mod OptionSteps
pub mod Runs
pub mod Rows
pub mod Walks
