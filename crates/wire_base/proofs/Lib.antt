pub mod Octets
pub mod OptionWalk
pub mod OptionLists
