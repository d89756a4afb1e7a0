pub mod WrittenChecksum
pub mod HeaderFields
