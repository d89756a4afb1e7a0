pub mod HeaderFields
pub mod OptionFacts
pub mod WrittenHeader
