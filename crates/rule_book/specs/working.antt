pub mod LineBuffers
pub mod ReportLines
pub mod LineFronts
pub mod LineWords
