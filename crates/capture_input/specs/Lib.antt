pub mod Faults
pub mod Inputs
pub mod ReaderState
pub mod RecordReading
pub mod InputLaws
