pub mod DatagramFragments
pub mod Calls
pub mod RuleRows
pub mod TableAndStore
pub mod AssemblyState
pub mod WorkedCases
pub mod CallLaws
pub mod working
