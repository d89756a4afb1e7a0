pub mod HeaderFields
pub mod CleanedOptions
pub mod WrittenSegment
pub mod MendedSegment
pub mod working
