pub mod RuleRows
pub mod Datagrams
pub mod JudgedRecord
pub mod working
