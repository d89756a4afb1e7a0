pub mod Lines
pub mod Numbers
pub mod Entries
pub mod Unique
pub mod Reports
