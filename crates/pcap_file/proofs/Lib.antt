pub mod Records
pub mod Captures
