pub mod Entries
pub mod LoadText
pub mod ReportReading
pub mod Rules
pub mod Text
pub mod working
