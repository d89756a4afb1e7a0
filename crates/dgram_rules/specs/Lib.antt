pub mod RuleRows
pub mod JudgedDatagram
pub mod RuleLaws
